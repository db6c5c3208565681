-- What makes a comparison an order: two laws. That it is reflexive and transitive, and that equals compare alike, follows from these two,
-- in proofs/Derived.antt. Definitions only; assumes nothing.
use Rattle.std.specs.Prelude.{◌≡◌}
use Rattle.order.specs.Ordering.{Ordering, lt, eq, gt, flip}
use Rattle.order.specs.Compare.{Comparison}

-- what the answers for a and b, and for b and c, say of r, the answer for a and c; nothing, where a and c lie on the same side of b
abbrev pub Triangle : Ordering → Ordering → Ordering → Type 0
Triangle lt lt r = r ≡ lt
Triangle lt eq r = r ≡ lt
Triangle lt gt r = Unit {0}
Triangle eq o r = r ≡ o
Triangle gt lt r = Unit {0}
Triangle gt eq r = r ≡ gt
Triangle gt gt r = r ≡ gt

-- a comparison is an order: turned round it gives the turned answer, and its answers for any three fit together
pub record Laws {A : Type 0} (cmp : Comparison A) : Type 0 where
  pub turn : (a b : A) → cmp b a ≡ flip (cmp a b)
  pub tri : (a b c : A) → Triangle (cmp a b) (cmp b c) (cmp a c)
