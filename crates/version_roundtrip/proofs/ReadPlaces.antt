-- What stands at a place of any text: a number that was read is a number of 64 bits, takes the bytes that it writes again, and ends within
-- the text. Assumes nothing.
use Rattle.answers.specs.declared.Refusal.{Refusal}
use Rattle.std.specs.Prelude.{Err, None, Ok, Some}
use mathlib.Core.Path.{◌≡◌, refl, sym, ◌∙◌, ap}
use mathlib.Core.Bool.{Bool, true, false, false≢true, cond}
use mathlib.Core.List.{List, [], ◌∷◌}
use Prim.Native.Nat.{ℕ, suc, ◌+◌, ◌^◌, ◌≤◌, ◌<◌}
use native.Mathlib.Omega.{arith}
use lib.Dec.{leb, ltb, eqb}
use lib.ListN.{length, get_or, take, drop, length-take, length-drop, get_or-eq_default}
use borrow.Author.Tests.{ltb-true, leb-true, leb-false, eqb-false}
use Rattle.chars.specs.Class.{class_of, separator, digit, between, front}
use Rattle.decimal.specs.Digits.{decimal}
use Rattle.decimal.specs.Parse.{value_from, number_of, digits_of, sized, leading_of}
use Rattle.version_parts.specs.Places.{NumberAt, separator_end, placed, number_at, marked_number, on_number}
use Rattle.version_roundtrip.specs.Readable.{Fits}
use Rattle.version_roundtrip.proofs.Numbers.{no_fewer}

-- what holds of both arms of a choice holds of the choice
pub by_cond : {A : Type 0} (P : A → Type 0) (t : Bool) {a b : A} → (t ≡ true → P a) → (t ≡ false → P b) → P (cond t a b)
by_cond P true f g = f refl
by_cond P false f g = g refl

pub run_within : (p : ℕ → Bool) (s : List ℕ) → front p s ≤ length s
unfolding front
run_within p [] = omega arith
run_within p (b ∷ s) = by_cond (λ k. k ≤ suc (length s)) (p b) (λ e. omega (arith, run_within p s)) (λ e. omega arith)

-- a byte that passes a test that byte 0 does not pass stands within the text
pub byte_within : (s : List ℕ) (at : ℕ) (test : ℕ → Bool) → test 0 ≡ false → test (get_or s at 0) ≡ true → at < length s
byte_within s at test none there = go (leb (length s) at) refl
  where
    go : (t : Bool) → leb (length s) at ≡ t → at < length s
    go true e = absurd (false≢true (sym none ∙ ap test (sym (get_or-eq_default s 0 (leb-true _ _ e))) ∙ there))
    go false e = leb-false _ _ e

-- from one place on to another, which lies within the text
pub record Onward (s : List ℕ) (at next : ℕ) : Type 0 where
  pub forward : at ≤ next
  pub within : next ≤ length s

pub separator_onward : (s : List ℕ) (at : ℕ) → at ≤ length s → Onward s at (separator_end s at)
unfolding separator_end class_of
separator_onward s at h =
    by_cond (Onward s at) (eqb (class_of (get_or s at 0)) separator) there (λ e. record { forward = omega arith; within = h })
  where
    there : eqb (class_of (get_or s at 0)) separator ≡ true → Onward s at (at + 1)
    there e =
        let inside = byte_within s at (λ b. eqb (class_of b) separator) refl e in
        record { forward = omega arith; within = omega arith }

-- a number that was read from `at` to `next`
pub record NumberRead (s : List ℕ) (at n next : ℕ) : Type 0 where
  pub fits : Fits n
  pub long : at + length (decimal n) ≤ next
  pub within : next ≤ length s

abbrev pub NumberSound : List ℕ → ℕ → NumberAt → Type 0
NumberSound s at (Ok None) = Unit {0}
NumberSound s at (Ok (Some (n, next))) = NumberRead s at n next
NumberSound s at (Err e) = Unit {0}

-- the digits at `at`, one at least, where their value is a number of 64 bits
digits_read : (s : List ℕ) (at : ℕ) → at ≤ length s → let count = digits_of (drop at s) in (count ≡ 0 → ⊥) →
    Fits (value_from 0 (take count (drop at s))) → NumberRead s at (value_from 0 (take count (drop at s))) (at + count)
digits_read s at h some fits =
    let rest = drop at s in
    let count = digits_of rest in
    let all = run_within (between digit digit) rest in
    let size = length-take count rest in
    record {
      fits = fits;
      long = omega (arith, no_fewer (take count rest) (omega arith));
      within = omega (arith, length-drop at s);
    }

pub number_sound : (s : List ℕ) (at : ℕ) → at ≤ length s → NumberSound s at (number_at s at)
unfolding number_at leading_of number_of
number_sound s at h = by_cond (λ x. NumberSound s at (placed at x)) (eqb count 0) (λ e. tt) (λ e. some (eqb-false _ _ e))
  where
    count : ℕ
    count = digits_of (drop at s)

    some : (count ≡ 0 → ⊥) → NumberSound s at (placed at (sized count (number_of (take count (drop at s)))))
    some e =
        by_cond (λ x. NumberSound s at (placed at (sized count x))) (ltb (value_from 0 (take count (drop at s))) (2 ^ 64))
        (λ f. digits_read s at h e (ltb-true _ _ f)) (λ f. tt)

-- a number after a mark
pub marked_sound : (mark : ℕ) (s : List ℕ) (at : ℕ) → eqb 0 mark ≡ false → NumberSound s (at + 1) (marked_number mark s at)
unfolding marked_number
marked_sound mark s at some =
    by_cond (NumberSound s (at + 1)) (eqb (get_or s at 0) mark)
    (λ e. let inside = byte_within s at (λ b. eqb b mark) some e in number_sound s (at + 1) (omega arith)) (λ e. tt)

-- what holds in each case of a number holds of the answer by cases
pub by_number : {A : Type 0} (P : A → Type 0) (s : List ℕ) (at : ℕ) (x : NumberAt) {none : A} {read : ℕ → ℕ → A} {refused : Refusal → A} →
    NumberSound s at x → P none → ((n next : ℕ) → NumberRead s at n next → P (read n next)) → ((e : Refusal) → P (refused e)) → P (on_number x none read refused)
by_number P s at (Ok None) g none read refused = none
by_number P s at (Ok (Some (n, next))) g none read refused = read n next g
by_number P s at (Err e) g none read refused = refused e
