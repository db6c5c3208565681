-- The ways of the functions that read numbers and parts as a normal text writes them.
-- Assumes nothing.
use Rattle.std.specs.Prelude.{None, Some}
use mathlib.Core.Path.{◌≡◌, refl, sym, ◌∙◌, ap}
use mathlib.Core.Bool.{Bool, false, not}
use mathlib.Core.List.{List, [], ◌∷◌, ◌++◌, append_assoc}
use Prim.Native.Nat.{ℕ, ◌+◌, ◌-◌, ◌*◌, ◌/◌, ◌%◌, ◌≤◌, ◌<◌}
use native.Mathlib.Numerals.{add-one}
use native.Mathlib.Omega.{arith}
use lib.ListN.{length, get_or, take, drop, take-append-drop}
use lib.Seq.{drop-cons, drop-drop}
use borrow.Author.Tests.{not-false}
use Rattle.decimal.specs.Digits.{figure, decimal}
use Rattle.decimal.proofs.Figures.{one_digit, more_digits}
use Rattle.chars.specs.Same.{same_bytes}
use Rattle.chars.proofs.SameBytes.{same_is}
use Rattle.version_rows.specs.declared.figures.PartAt.{PartAt}
use Rattle.version_rows.specs.NormalPlain.{PartRead}

-- one more digit of a number that is not 0
pub digit_next : (s text : List ℕ) (v i : ℕ) → decimal v ++ drop i s ≡ text → 1 ≤ v → i < length s → 48 ≤ get_or s i 0 → get_or s i 0 ≤ 57 →
    decimal (v * 10 + (get_or s i 0 - 48)) ++ drop (i + 1) s ≡ text
digit_next s text v i here some inside low high =
    let b = get_or s i 0 in
    let n = v * 10 + (b - 48) in
    let big : 10 ≤ n = omega arith in
    let front : n / 10 ≡ v = omega arith in
    let last : figure (n % 10) ≡ b = omega arith in
    let longer : decimal n ≡ decimal v ++ (b ∷ []) = more_digits n big ∙ rw (front, last) in
    let byte : drop i s ≡ b ∷ drop (i + 1) s = rw (drop-cons s i 0 inside, add-one i) in
    rw longer (append_assoc (decimal v) (b ∷ []) (drop (i + 1) s) ∙ ap (λ (t : List ℕ). decimal v ++ t) (sym byte) ∙ here)

-- the byte at a place
module _ (s : List ℕ) (at b : ℕ) (is : b ≡ get_or s at 0) (inside : b ≤ 255 * (length s - at)) (low : 48 ≤ b) where
  here : drop at s ≡ b ∷ drop (at + 1) s
  here = drop-cons s at 0 (omega arith) ∙ rw (← is, add-one at)

  pub zero_alone : b ≤ 48 → drop at s ≡ decimal 0 ++ drop (at + 1) s
  zero_alone high = let e : b ≡ 48 = omega arith in here ∙ rw (one_digit 0 (omega arith), e)

  pub first_figure : (r : PartAt) → b ≤ 57 → PartRead s (decimal (b - 48) ++ drop (at + 1) s) [] r → PartRead s (drop at s) [] r
  first_figure r high p =
      let figure-is : figure (b - 48) ≡ b = omega arith in
      let one : decimal (b - 48) ≡ b ∷ [] = one_digit (b - 48) (omega arith) ∙ rw figure-is in
      record {
        written = here ∙ ap (λ (t : List ℕ). t ++ drop (at + 1) s) (sym one) ∙ p.written;
        within = p.within;
        fits = p.fits;
      }

pub no_part : (s name : List ℕ) (at : ℕ) → at ≤ length s → PartRead s (drop at s) name (record { part = None; next = at })
no_part s name at inside = record { written = refl; within = inside; fits = tt }

-- a name, and the number after it
pub part_after : (s name : List ℕ) (at n : ℕ) (same : Bool) (r : PartAt) →
    same ≡ same_bytes (take (at + length name - at) (drop at s)) name → not same ≡ false →
    PartRead s (drop (at + length name) s) [] r → r.part ≡ Some n → PartRead s (drop at s) name r
part_after s name at n same r e f p g =
    let named : take (at + length name - at) (drop at s) ≡ name = same_is _ name (sym e ∙ not-false same f) in
    let size : at + length name - at ≡ length name = omega arith in
    let front : take (length name) (drop at s) ≡ name = rw size at named in
    let parted : drop at s ≡ name ++ drop (at + length name) s =
    sym (take-append-drop (length name) (drop at s)) ∙ rw (front, drop-drop (length name) at s) in
    let number : drop (at + length name) s ≡ decimal n ++ drop r.next s = rw g at p.written in
    record {
      written =
          rw g (parted ∙ ap (λ (t : List ℕ). name ++ t) number ∙ sym (append_assoc name (decimal n) (drop r.next s)));
      within = p.within;
      fits = p.fits;
    }
