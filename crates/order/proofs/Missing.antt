-- What may be missing, the missing below all, keeps the laws of an order. Assumes nothing.
use Rattle.std.specs.Prelude.{Option, None, Some}
use mathlib.Core.Path.{◌≡◌, refl}
use Rattle.order.specs.Ordering.{flip}
use Rattle.order.specs.Compare.{Comparison, option}
use Rattle.order.specs.Laws.{Triangle, Laws}
use Rattle.order.proofs.Ordering.{extremes}

module _ {A : Type 0} {cmp : Comparison A} (L : Laws cmp) where
  turn : (a b : Option A) → option cmp b a ≡ flip (option cmp a b)
  turn None None = refl
  turn None (Some y) = refl
  turn (Some x) None = refl
  turn (Some x) (Some y) = L.turn x y

  tri : (a b c : Option A) → Triangle (option cmp a b) (option cmp b c) (option cmp a c)
  tri None None c = refl
  tri None (Some y) None = tt
  tri None (Some y) (Some z) = (extremes (cmp y z)).first_least
  tri (Some x) None None = refl
  tri (Some x) None (Some z) = tt
  tri (Some x) (Some y) None = (extremes (cmp x y)).last_least
  tri (Some x) (Some y) (Some z) = L.tri x y z

  pub option_laws : Laws (option cmp)
  option_laws = record { turn = turn; tri = tri }
