-- A text has a word exactly if it says a small version; and the words of two texts compare as the texts do.
-- Assumes nothing.
use Rattle.std.specs.declared.cmp.Ordering.TheVariants.{Equal}
use Rattle.std.specs.Prelude.{Ok, Some, None}
use mathlib.Core.Path.{◌≡◌, refl, sym, ◌∙◌, ap}
use mathlib.Core.Logic.{◌↔◌}
use mathlib.Core.Bool.{Bool, true, false}
use mathlib.Core.List.{List}
use Prim.Native.Nat.{ℕ, compare}
use Rattle.order.specs.Ordering.{Ordering, lt, eq, gt, Means}
use Rattle.order.specs.Answer.{name_of}
use Rattle.order.proofs.Numbers.{compare_means}
use Rattle.version_reading.specs.declared.text.Verdict.{Verdict}
use Rattle.version_reading.specs.declared.text.Verdict.TheVariants.{Accepted, Refused as NotRead}
use Rattle.version_reading.specs.Reading.{version_of}
use Rattle.version_reading.specs.Value.{Value, value_in}
use Rattle.version_order.specs.Compared.{answered, compared}
use Rattle.version_word.specs.declared.packed.Word.{Word}
use Rattle.version_word.specs.Small.{is_small, word_of}
use Rattle.version_word.specs.Beside.{word_is}
use Rattle.version_word.specs.Worded.{worded_if, worded, judged, word_answer}
use Rattle.version_word.proofs.Words.{word_compare}

-- the text says a small version, and n is its sum
pub record Sums (s : List ℕ) (n : ℕ) : Type 0 where
  pub accepted : (version_of s).verdict ≡ Accepted
  pub small : is_small (value_in s) ≡ true
  pub sum : n ≡ word_of (value_in s)

-- by the test: which answer says that it holds
word_if : (b : Bool) (m n : ℕ) → worded_if b m ≡ Ok (Some (word_is n)) → (b ≡ true) × (n ≡ m)
word_if true m n e = let k : word_is n ≡ word_is m = cc in (refl, ap (λ (w : Word). w.0) k)
word_if false m n e = (cc, cc)

none_if : (b : Bool) (m : ℕ) → worded_if b m ≡ Ok None → b ≡ false
none_if true m e = cc
none_if false m e = refl

word_judged : (s : List ℕ) (n : ℕ) (v : Verdict) → (version_of s).verdict ≡ v → judged v (value_in s) ≡ Ok (Some (word_is n)) → Sums s n
unfolding worded
word_judged s n Accepted p e =
    let h = word_if (is_small (value_in s)) (word_of (value_in s)) n e in
    record { accepted = p; small = h.0; sum = h.1 }
word_judged s n (NotRead r) p e = record { accepted = cc; small = cc; sum = cc }

none_judged : (v : Verdict) (x : Value) → judged v x ≡ Ok None → (v ≡ Accepted) × (is_small x ≡ false)
unfolding worded
none_judged Accepted x e = (refl, none_if (is_small x) (word_of x) e)
none_judged (NotRead r) x e = (cc, cc)

module _ (s : List ℕ) where
  pub has_word : (n : ℕ) → word_answer s ≡ Ok (Some (word_is n)) ↔ Sums s n
  unfolding worded word_answer
  has_word n = (λ e. word_judged s n (version_of s).verdict refl e, λ h. rw (h.accepted, h.small, h.sum))

  pub has_none : word_answer s ≡ (Ok None) ↔ (((version_of s).verdict ≡ Accepted) × (is_small (value_in s) ≡ false))
  unfolding worded word_answer
  has_none = (λ e. none_judged (version_of s).verdict (value_in s) e, λ h. rw (h.0, h.1))

module _ (s t : List ℕ) (m n : ℕ) (e : word_answer s ≡ Ok (Some (word_is m))) (f : word_answer t ≡ Ok (Some (word_is n))) where
  pub texts_compare : compared s t ≡ answered (name_of (compare m n))
  unfolding compared
  texts_compare =
      let a = (has_word s m).0 e in
      let b = (has_word t n).0 f in
      rw (a.accepted, b.accepted, a.sum, b.sum, word_compare (value_in s) (value_in t) a.small b.small)

  -- equal versions have one word
  pub one_word : compared s t ≡ Ok Equal → m ≡ n
  one_word g = go (compare m n) (compare_means m n) (sym texts_compare ∙ g)
    where
      go : (o : Ordering) → Means o m n → answered (name_of o) ≡ Ok Equal → m ≡ n
      go lt h k = cc
      go eq h k = h
      go gt h k = cc
