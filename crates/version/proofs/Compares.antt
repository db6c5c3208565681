-- The ways of the functions that compare two texts.
-- Assumes nothing.
use Rattle.answers.specs.declared.RefusedInput.TheVariants.{First, Second}
use Rattle.answers.specs.declared.RefusedInput.{RefusedInput}
use Rattle.std.specs.Prelude.{Option, Some, Result, Err}
use mathlib.Core.Path.{◌≡◌, sym, ◌∙◌}
use mathlib.Core.Bool.{false}
use mathlib.Core.List.{List}
use Prim.Native.Nat.{ℕ, compare}
use Rattle.answers.specs.declared.Refusal.{Refusal}
use Rattle.std.specs.declared.cmp.Ordering.{Ordering as Order}
use Rattle.order.specs.Answer.{name_of}
use Rattle.version_reading.specs.declared.plain.Plain.{Plain}
use Rattle.version_reading.specs.declared.text.Verdict.TheVariants.{Accepted, Refused}
use Rattle.version_reading.specs.Plain.{plain_of, PlainRead}
use Rattle.version_reading.specs.Reading.{version_of}
use Rattle.version_reading.specs.Value.{value_of, value_in}
use Rattle.version_reading.proofs.PlainRead.{plain_said, said_filled}
use Rattle.version_order.specs.Versions.{compare_values}
use Rattle.version_order.specs.Compared.{answered, compared}
use Rattle.version_compare.specs.Plain.{compare_plains}
use Rattle.version_compare.proofs.Plains.{plains_order}
use Rattle.version_word.specs.declared.packed.Word.{Word}
use Rattle.version_word.proofs.Beside.{words_decide}
use Rattle.version_word.proofs.Texts.{in_accepted}
use Rattle.version.specs.declared.reading.Reading.{Reading}
use Rattle.version.specs.Reading.{TextRead}
use Rattle.version.proofs.Readings.{verdict_is, version_is}

-- two texts that say plain versions: r is how these compare
pub both_plain : (s t : List ℕ) (one other : Option Plain) (v w : Plain) (r : Order) (q : Result Order RefusedInput) → PlainRead (plain_of s) one →
    PlainRead (plain_of t) other → one ≡ Some v → other ≡ Some w → r ≡ name_of (compare_plains v w) → q ≡ answered r → q ≡ compared s t
unfolding compared version_of
both_plain s t one other v w r q p o e f g h =
    rw (
      plain_said false s one v p.is e,
      plain_said false t other w o.is f,
      plains_order s t v w (said_filled p e).filled (said_filled o f).filled,
      ← g,
    )
    h

-- what was read of two texts, and the verdicts
module _ (s t : List ℕ) (one : Reading) (d : TextRead s one) where
  pub first_refused : (x : Refusal) → one.verdict ≡ Refused x → Err (First x) ≡ compared s t
  unfolding compared
  first_refused x e = rw (← verdict_is d, e)

  module _ (other : Reading) (f : TextRead t other) (a : one.verdict ≡ Accepted) where
    pub second_refused : (x : Refusal) → other.verdict ≡ Refused x → Err (Second x) ≡ compared s t
    unfolding compared
    second_refused x e = rw (← verdict_is d, ← verdict_is f, a, e)

    -- both are accepted: r is how the versions compare, by their fields or by their words
    module _ (b : other.verdict ≡ Accepted) (r : Order) where
      pub both_accepted : (q : Result Order RefusedInput) → r ≡ name_of (compare_values (value_in s) (value_in t)) → q ≡ answered r → q ≡ compared s t
      unfolding compared
      both_accepted q e g = rw (← verdict_is d, ← verdict_is f, a, b, ← e) g

      pub by_fields : r ≡ name_of (compare_values (value_of s one.version) (value_of t other.version)) → r ≡ name_of (compare_values (value_in s) (value_in t))
      by_fields e = rw (← version_is d, ← version_is f) e

      pub by_words : (m n : Word) → one.word ≡ Some m → other.word ≡ Some n → r ≡ name_of (compare m.0 n.0) →
          r ≡ name_of (compare_values (value_in s) (value_in t))
      by_words m n g h e =
          words_decide (value_in s) (value_in t) m n r
          (sym g ∙ (d.word ∙ in_accepted s (sym (verdict_is d) ∙ a)))
          (sym h ∙ (f.word ∙ in_accepted t (sym (verdict_is f) ∙ b)))
          e
