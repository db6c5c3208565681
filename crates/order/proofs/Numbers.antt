-- The comparison of numbers: it keeps the laws of an order, and its answer means what it says. By induction on both numbers, since
-- the library's `compare` is stuck at variables. Assumes nothing.
use mathlib.Core.Path.{◌≡◌, refl}
use Prim.Native.Nat.compare
use Prim.Native.Nat.{ℕ, zero, suc, compare}
use native.Mathlib.Omega.{arith}
use Rattle.order.specs.Ordering.{Ordering, lt, eq, gt, Means, flip}
use Rattle.order.specs.Laws.{Triangle, Laws}
use Rattle.order.proofs.Ordering.{extremes}

turn : (m n : ℕ) → compare n m ≡ flip (compare m n)
turn zero zero = refl
turn zero (suc n) = rw (compare.zero-suc, compare.suc-zero)
turn (suc m) zero = rw (compare.zero-suc, compare.suc-zero)
turn (suc m) (suc n) = simp compare.suc-suc (turn m n)

tri : (a b c : ℕ) → Triangle (compare a b) (compare b c) (compare a c)
tri zero zero c = refl
tri zero (suc b) zero = simp (compare.zero-suc, compare.suc-zero) tt
tri zero (suc b) (suc c) = simp compare.zero-suc (extremes (compare (suc b) (suc c))).first_least
tri (suc a) zero zero = simp (compare.suc-zero, compare.zero-zero) refl
tri (suc a) zero (suc c) = simp (compare.suc-zero, compare.zero-suc) tt
tri (suc a) (suc b) zero = simp compare.suc-zero (extremes (compare (suc a) (suc b))).last_least
tri (suc a) (suc b) (suc c) = simp compare.suc-suc (tri a b c)

pub number_laws : Laws compare
number_laws = record { turn = turn; tri = tri }

means_suc : (o : Ordering) (x y : ℕ) → Means o x y → Means o (suc x) (suc y)
means_suc lt x y h = omega arith
means_suc eq x y h = omega arith
means_suc gt x y h = omega arith

-- from the answer to the fact
pub compare_means : (x y : ℕ) → Means (compare x y) x y
compare_means zero zero = refl
compare_means zero (suc y) = rw compare.zero-suc (omega arith)
compare_means (suc x) zero = rw compare.suc-zero (omega arith)
compare_means (suc x) (suc y) = rw compare.suc-suc (means_suc (compare x y) x y (compare_means x y))

-- of two numbers one answer at most is true
means_one : (o p : Ordering) (x y : ℕ) → Means o x y → Means p x y → o ≡ p
means_one lt lt x y h k = refl
means_one lt eq x y h k = absurd (omega arith)
means_one lt gt x y h k = absurd (omega arith)
means_one eq lt x y h k = absurd (omega arith)
means_one eq eq x y h k = refl
means_one eq gt x y h k = absurd (omega arith)
means_one gt lt x y h k = absurd (omega arith)
means_one gt eq x y h k = absurd (omega arith)
means_one gt gt x y h k = refl

-- and from the fact to the answer
pub compare_is : (o : Ordering) (x y : ℕ) → Means o x y → compare x y ≡ o
compare_is o x y h = means_one (compare x y) o x y (compare_means x y) h
