-- Lower case changes no class, no digit and no length, so that a segment in lower case says what the segment says.
-- Assumes nothing.
use mathlib.Core.Path.{◌≡◌, refl, sym, ◌∙◌, ap, ap₂, subst}
use mathlib.Core.Bool.{Bool, true, false}
use mathlib.Core.List.{List, [], ◌∷◌}
use Prim.Native.Nat.{ℕ, ◌+◌, ◌*◌, ◌≤◌}
use native.Mathlib.Omega.{arith}
use lib.Dec.{leb}
use borrow.Author.Tests.{leb-true, leb-false, le-leb, lt-leb}
use Rattle.order.specs.All.{All}
use Rattle.chars.specs.Class.{class_of, digit, letter, between, front}
use Rattle.chars.specs.Case.{lower_of, lowered}
use Rattle.chars.proofs.Beginnings.{lower_under, lower_over, lower_capital, lowered_length}
use Rattle.decimal.specs.Parse.{digit_of, value_from, number_of}
use Rattle.decimal.proofs.Values.{digit_over}
use Rattle.version_reading.specs.Segment.{segment_of}
use Rattle.version_roundtrip.specs.Readable.{Plain, IsSegment}

-- a byte in lower case is the byte, or a capital's small letter
by_case : (P : ℕ → Type 0) (b : ℕ) → (b ≡ lower_of b → P b) → (65 ≤ b → b ≤ 90 → P (b + 32)) → P (lower_of b)
by_case P b same small = go (leb 65 b) (leb b 90) refl refl
  where
    as_it_is : b ≡ lower_of b → P (lower_of b)
    as_it_is e = subst P e (same e)

    go : (low high : Bool) → leb 65 b ≡ low → leb b 90 ≡ high → P (lower_of b)
    go true true e f = subst P (lower_capital b (leb-true _ _ e) (leb-true _ _ f)) (small (leb-true _ _ e) (leb-true _ _ f))
    go true false e f = as_it_is (lower_over b (leb-true _ _ e) (leb-false _ _ f))
    go false high e f = as_it_is (lower_under b (leb-false _ _ e))

lower_class : (b : ℕ) → class_of (lower_of b) ≡ class_of b
unfolding class_of
lower_class b = by_case (λ r. class_of r ≡ class_of b) b (λ e. refl) (λ h g. rw (
  le-leb 48 b (omega arith),
  lt-leb b 57 (omega arith),
  le-leb 65 b h,
  le-leb b 90 g,
  le-leb 48 (b + 32) (omega arith),
  lt-leb (b + 32) 57 (omega arith),
  le-leb 65 (b + 32) (omega arith),
  lt-leb (b + 32) 90 (omega arith),
  le-leb 97 (b + 32) (omega arith),
  le-leb (b + 32) 122 (omega arith),
))

lower_digit : (b : ℕ) → digit_of (lower_of b) ≡ digit_of b
lower_digit b =
    by_case (λ r. digit_of r ≡ digit_of b) b (λ e. refl)
    (λ h g. sym (digit_over (b + 32) (omega arith) (omega arith)) ∙ digit_over b (omega arith) (omega arith))

lower_twice : (b : ℕ) → lower_of (lower_of b) ≡ lower_of b
lower_twice b = by_case (λ r. lower_of r ≡ r) b (λ e. sym e) (λ h g. sym (lower_over (b + 32) (omega arith) (omega arith)))

pub lowered_twice : (s : List ℕ) → lowered (lowered s) ≡ lowered s
unfolding lowered
lowered_twice [] = refl
lowered_twice (b ∷ s) = ap₂ ◌∷◌ (lower_twice b) (lowered_twice s)

lower_between : (lo hi b : ℕ) → between lo hi (lower_of b) ≡ between lo hi b
unfolding between
lower_between lo hi b = rw (lower_class b)

lowered_run : (lo hi : ℕ) (s : List ℕ) → front (between lo hi) (lowered s) ≡ front (between lo hi) s
unfolding front lowered
lowered_run lo hi [] = refl
lowered_run lo hi (b ∷ s) = rw (lower_between lo hi b, lowered_run lo hi s)

lowered_value : (v : ℕ) (s : List ℕ) → value_from v (lowered s) ≡ value_from v s
unfolding value_from lowered
lowered_value v [] = refl
lowered_value v (b ∷ s) = ap (λ (d : ℕ). value_from (v * 10 + d) (lowered s)) (lower_digit b) ∙ lowered_value (v * 10 + digit_of b) s

pub lowered_says : (s : List ℕ) → segment_of (lowered s) ≡ segment_of s
unfolding segment_of number_of
lowered_says s = rw (lowered_run digit digit s, lowered_length s, lowered_value 0 s)

lowered_plain : (s : List ℕ) → All Plain s → All Plain (lowered s)
unfolding lowered
lowered_plain [] all = tt
lowered_plain (b ∷ s) all = (lower_between digit letter b ∙ all.0, lowered_plain s all.1)

pub lowered_segment : (s : List ℕ) → IsSegment s → IsSegment (lowered s)
lowered_segment s h = record { some = rw (lowered_length s) h.some; plain = lowered_plain s h.plain }
