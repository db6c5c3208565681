-- Numbers made of digits compare digit by digit.
-- Assumes nothing.
use mathlib.Core.Path.{◌≡◌}
use mathlib.Core.List.{List}
use Prim.Native.Nat.{ℕ, ◌+◌, ◌*◌, ◌≤◌, ◌<◌, compare}
use native.Mathlib.Nat.{mul-le-mul_right}
use native.Mathlib.Omega.{arith}
use lib.ListN.{length, get_or, drop_of_length-le}
use Rattle.order.specs.Ordering.{Ordering, lt, eq, gt, Means, also}
use Rattle.order.specs.Compare.{padded}
use Rattle.order.proofs.Ordering.{also_assoc, also_eq}
use Rattle.order.proofs.Numbers.{number_laws, compare_means, compare_is}
use Rattle.order.proofs.Padded.{padded_at}

-- one digit more: what stands in front decides, and then the digit, below n
pub digit : (n x y x' y' : ℕ) → y < n → y' < n → compare (x * n + y) (x' * n + y') ≡ also (compare x x') (compare y y')
digit n x y x' y' h h' = go (compare x x') (compare_means x x')
  where
    last : (o : Ordering) → x ≡ x' → Means o y y' → Means o (x * n + y) (x' * n + y')
    last lt e t = rw e (omega arith)
    last eq e t = rw (e, t)
    last gt e t = rw e (omega arith)

    go : (o : Ordering) → Means o x x' → compare (x * n + y) (x' * n + y') ≡ also o (compare y y')
    go lt l = compare_is lt (x * n + y) (x' * n + y') (omega (arith, mul-le-mul_right n l))
    go eq l = compare_is (compare y y') (x * n + y) (x' * n + y') (last (compare y y') l (compare_means y y'))
    go gt l = compare_is gt (x * n + y) (x' * n + y') (omega (arith, mul-le-mul_right n l))

-- a release of at most four numbers, of which all but the first are digits
pub record FourNumbers (r : List ℕ) : Type 0 where
  pub few : length r ≤ 4
  pub second : get_or r 1 0 < 256
  pub third : get_or r 2 0 < 256
  pub fourth : get_or r 3 0 < 256

abbrev pub four : List ℕ → ℕ
four r = ((get_or r 0 0 * 256 + get_or r 1 0) * 256 + get_or r 2 0) * 256 + get_or r 3 0

module _ (l m : List ℕ) (a : FourNumbers l) (b : FourNumbers m) where
  by_places : padded compare 0 l m ≡
      also (compare (get_or l 0 0) (get_or m 0 0))
      (also (compare (get_or l 1 0) (get_or m 1 0)) (also (compare (get_or l 2 0) (get_or m 2 0)) (compare (get_or l 3 0) (get_or m 3 0))))
  by_places =
      rw (
        padded_at number_laws 0 l m 0,
        padded_at number_laws 0 l m 1,
        padded_at number_laws 0 l m 2,
        padded_at number_laws 0 l m 3,
        drop_of_length-le l a.few,
        drop_of_length-le m b.few,
        also_eq (compare (get_or l 3 0) (get_or m 3 0)),
      )

  pub four_compare : compare (four l) (four m) ≡ padded compare 0 l m
  four_compare = rw by_places (simp (digit 256, also_assoc, a.second, a.third, a.fourth, b.second, b.third, b.fourth))
