-- What follows from the two laws of an order: it is reflexive and transitive, and equals compare alike. Assumes nothing.
use mathlib.Core.Path.{◌≡◌, refl}
use Rattle.order.specs.Ordering.{Ordering, lt, eq, gt, flip}
use Rattle.order.specs.Compare.{Comparison}
use Rattle.order.specs.Laws.{Triangle, Laws}

own_flip : (o : Ordering) → o ≡ flip o → o ≡ eq
own_flip lt e = cc
own_flip eq e = refl
own_flip gt e = cc

equal_behind : (o r : Ordering) → Triangle o eq r → r ≡ o
equal_behind lt r t = t
equal_behind eq r t = t
equal_behind gt r t = t

module _ {A : Type 0} {cmp : Comparison A} (L : Laws cmp) where
  pub reflexive : (a : A) → cmp a a ≡ eq
  reflexive a = own_flip (cmp a a) (L.turn a a)

  -- a is equal to b: it compares with c as b does
  pub eq_left : (a b c : A) → cmp a b ≡ eq → cmp a c ≡ cmp b c
  eq_left a b c e = rw e at (L.tri a b c)

  -- c is equal to b: a compares with it as with b
  pub eq_right : (a b c : A) → cmp b c ≡ eq → cmp a c ≡ cmp a b
  eq_right a b c e = equal_behind (cmp a b) (cmp a c) (rw e at (L.tri a b c))

  pub lt_trans : (a b c : A) → cmp a b ≡ lt → cmp b c ≡ lt → cmp a c ≡ lt
  lt_trans a b c e f = rw (e, f) at (L.tri a b c)
