-- The library's comparisons give the names of ours: `cmp` of numbers, of options, and one comparison after another.
-- Assumes nothing.
use Rattle.std.specs.Prelude.{Option, None, Some}
use Rattle.std.specs.Option.{option_cmp}
use Rattle.std.specs.Ordering.{MatchOrdering, nat_cmp, ordering_then}
use Rattle.std.specs.declared.cmp.Ordering.{Ordering as Order}
use Rattle.std.specs.declared.cmp.Ordering.TheVariants.{Less, Greater}
use mathlib.Core.Path.{◌≡◌, refl, ◌∙◌}
use Prim.Native.Nat.{ℕ, compare}
use native.Mathlib.Omega.{arith}
use Rattle.order.specs.Ordering.{Ordering, lt, eq, gt, Means, also}
use Rattle.order.specs.Compare.{option}
use Rattle.order.specs.Answer.{name_of}
use Rattle.order.proofs.Numbers.{compare_means}

pub number_named : (a b : ℕ) → nat_cmp a b ≡ name_of (compare a b)
number_named a b = go (compare a b) (compare_means a b)
  where
    go : (o : Ordering) → Means o a b → nat_cmp a b ≡ name_of o
    go lt h = grind arith
    go eq h = grind arith
    go gt h = grind arith

pub number_is : (a b : ℕ) (r : Order) → r ≡ nat_cmp a b → r ≡ name_of (compare a b)
number_is a b r e = e ∙ number_named a b

pub then_named : (o p : Ordering) → ordering_then (name_of o) (name_of p) ≡ name_of (also o p)
then_named lt p = refl
then_named eq p = refl
then_named gt p = refl

pub option_named : (a b : Option ℕ) → option_cmp nat_cmp a b ≡ name_of (option compare a b)
option_named None None = refl
option_named None (Some y) = refl
option_named (Some x) None = refl
option_named (Some x) (Some y) = number_named x y

-- `then_with`: r is the first answer, q what comes of both, and P what is known where the first finds no difference
pub then_is : (o p : Ordering) (r q : Order) {P : Type 0} → r ≡ name_of o → (P → q ≡ name_of p) → MatchOrdering r (q ≡ Less) P (q ≡ Greater) →
    q ≡ name_of (also o p)
then_is lt p r q e f h = rw e at h
then_is eq p r q e f h = f (rw e at h)
then_is gt p r q e f h = rw e at h

-- four answers, as a tuple compares
pub four_named : (a b c d : Ordering) → ordering_then (ordering_then (ordering_then (name_of a) (name_of b)) (name_of c)) (name_of d) ≡
    name_of (also a (also b (also c d)))
four_named lt b c d = refl
four_named gt b c d = refl
four_named eq lt c d = refl
four_named eq gt c d = refl
four_named eq eq lt d = refl
four_named eq eq gt d = refl
four_named eq eq eq d = refl
