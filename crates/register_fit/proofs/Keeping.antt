-- The rules on entries that need no table: the first entry that breaks one, and the ways of holding them one after the other.
-- Assumes nothing.
use Rattle.std.specs.Prelude.{Option, Some, None, Result, Ok, Err, position}
use Rattle.std.specs.List.{position_or_len}
use Rattle.std.proofs.lemmas.Grind.{common_steps}
use Rattle.std.proofs.lemmas.List.Quantifiers.{position-Some}
use Rattle.std.proofs.lemmas.List.Sums.{fails_before_first}
use mathlib.Core.Path.{◌≡◌, refl, sym, ◌∙◌, ap}
use mathlib.Core.Bool.{Bool, false, cond}
use mathlib.Core.List.{List}
use Prim.Native.Nat.{ℕ, zero, suc, ◌+◌, ◌≤◌, ◌<◌}
use native.Mathlib.Decide.{ℕ_discrete}
use native.Mathlib.Omega.{arith}
use lib.Dec.{eqb, ltb}
use lib.ListN.{length}
use borrow.Author.Tests.{eq-eqb, ne_eqb, lt-ltb, le-ltb}
use Rattle.answers.specs.declared.Refusal.{Refusal}
use Rattle.answers.specs.Refusal.{refusal}
use Rattle.register_entries.specs.declared.entry.Entry.{Entry}
use Rattle.register_entries.specs.Held.{blank}
use Rattle.register_rules.specs.Guilt.{Taken, Outside, entry_at, guilt_by, first_from, first_of}
use Rattle.register_fit.specs.Rules.{is_repeated, FirstWhere, refused_at, kept_unless, rules_kept}

-- no index is guilty, or `at` is the first
module _ (g : ℕ → ℕ) where
  none_from : (room i : ℕ) → ((k : ℕ) → k < i + room → g k ≡ 0) → first_from g room i ≡ refusal 0 0
  unfolding first_from
  none_from zero i h = refl
  none_from (suc room) i h = rw (eq-eqb (g i) 0 (h i (omega arith))) (none_from room (suc i) (λ k l. h k (omega arith)))

  found_from : (room i at : ℕ) → i ≤ at → at < i + room → (g at ≡ 0 → ⊥) → ((k : ℕ) → k < at → g k ≡ 0) → first_from g room i ≡ refusal (g at) at
  unfolding first_from
  found_from zero i at l h f before = absurd (omega arith)
  found_from (suc room) i at l h f before =
      elim (ℕ_discrete i at) [
        | yes e ↦ rw (e, ne_eqb (g at) 0 f)
        | no d ↦ rw (eq-eqb (g i) 0 (before i (omega arith))) (found_from room (suc i) at (omega arith) (omega arith) f before)
      ]

abbrev then_keep : Result (Unit {0}) Refusal → Result (Unit {0}) Refusal → Result (Unit {0}) Refusal
then_keep (Ok u) otherwise = otherwise
then_keep (Err x) otherwise = Err x

-- a rule that is broken where a test passes
module _ (p : ℕ → Bool) (number : ℕ) (some : number ≡ 0 → ⊥) (n : ℕ) (otherwise : Result (Unit {0}) Refusal) where
  abbrev guilt : ℕ → ℕ
  guilt i = cond (p i) number 0

  by_first : (r : Option ℕ) → FirstWhere p n r → kept_unless (first_from guilt n 0) otherwise ≡ then_keep (refused_at number r) otherwise
  by_first None all = rw (none_from guilt n 0 (λ k h. rw (all k (omega arith))))
  by_first (Some i) (inside, passes, before) =
      let number_is : guilt i ≡ number = rw passes in
      let found : first_from guilt n 0 ≡ refusal number i =
      found_from guilt n 0 i (omega arith) (omega arith) (λ z. some (sym number_is ∙ z)) (λ k h. rw (before k h)) ∙ ap (λ (m : ℕ). refusal m i) number_is in
      rw (found, ne_eqb number 0 some)

-- the first entry at which a test passes
module _ (p : Entry → Bool) (es : List Entry) where
  none_pass : position p es ≡ None → (k : ℕ) → k < length es → p (entry_at es k) ≡ false
  none_pass e k h =
      let past : length es ≤ position_or_len p es = grind (arith, common_steps) in
      fails_before_first p es k blank (omega arith)

  first_place : (r : Option ℕ) → r ≡ position p es → FirstWhere (λ i. p (entry_at es i)) (length es) r
  first_place None e = none_pass (sym e)
  first_place (Some i) e = position-Some p es i blank (sym e)

-- `first_repeated`
pub also_not : (es : List Entry) (i : ℕ) (r : Bool) → ((k : ℕ) → k < i → is_repeated es k ≡ false) → r ≡ is_repeated es i → r ≡ false → (k : ℕ) → k < i + 1 → is_repeated es k ≡ false
also_not es i r before e f k h =
    elim (ℕ_discrete k i) [
      | yes q ↦ rw q (sym e ∙ f)
      | no d ↦ before k (omega arith)
    ]

then_nothing : (r : Result (Unit {0}) Refusal) → then_keep r (Ok tt) ≡ r
then_nothing (Ok u) = refl
then_nothing (Err x) = refl

-- `keep_rules`
module _ (buffer : List ℕ) (es : List Entry) where
  pub too_many : 64 < length es → Err (refusal 30 64) ≡ rules_kept buffer es
  unfolding rules_kept
  too_many h = rw (lt-ltb 64 (length es) h)

  abbrev behind_taken : Result (Unit {0}) Refusal
  behind_taken = kept_unless (first_of (guilt_by Outside buffer es) es) (Ok tt)

  abbrev behind_zero : Result (Unit {0}) Refusal
  behind_zero = kept_unless (first_of (guilt_by Taken buffer es) es) behind_taken

  module _ (few : length es ≤ 64) (z : Option ℕ) (a : Result (Unit {0}) Refusal) (zs : z ≡ position (λ (e : Entry). eqb e.id 0) es) (told : a ≡ refused_at 31 z) where
    after_zero : rules_kept buffer es ≡ then_keep a behind_zero
    unfolding rules_kept
    after_zero =
        let ruled = by_first (λ i. eqb (entry_at es i).id 0) 31 (omega arith) (length es) behind_zero z (first_place (λ (e : Entry). eqb e.id 0) es z zs) in
        rw (le-ltb 64 (length es) few, told) ruled

    pub zero_refused : (x : Refusal) → a ≡ Err x → Err x ≡ rules_kept buffer es
    zero_refused x e = sym (after_zero ∙ rw e)

    module _ (u : Unit {0}) (none : a ≡ Ok u) (t : Option ℕ) (b : Result (Unit {0}) Refusal) (ts : FirstWhere (is_repeated es) (length es) t) (bs : b ≡ refused_at 32 t) where
      after_taken : rules_kept buffer es ≡ then_keep b behind_taken
      after_taken = after_zero ∙ rw (none, bs) (by_first (is_repeated es) 32 (omega arith) (length es) behind_taken t ts)

      pub taken_refused : (x : Refusal) → b ≡ Err x → Err x ≡ rules_kept buffer es
      taken_refused x e = sym (after_taken ∙ rw e)

      pub outside_told : (v : Unit {0}) → b ≡ Ok v → (o : Option ℕ) (c : Result (Unit {0}) Refusal) →
          o ≡ position (λ (e : Entry). ltb (length buffer) (e.start + e.length)) es → c ≡ refused_at 33 o → c ≡ rules_kept buffer es
      outside_told v e o c os cs =
          let outside = λ (e : Entry). ltb (length buffer) (e.start + e.length) in
          let ruled = by_first (λ i. outside (entry_at es i)) 33 (omega arith) (length es) (Ok tt) o (first_place outside es o os) in
          sym (after_taken ∙ rw e (ruled ∙ rw (← cs) (then_nothing c)))
