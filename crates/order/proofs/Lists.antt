-- Lists compared element by element, a proper beginning first, keep the laws of an order. Assumes nothing.
use mathlib.Core.Path.{◌≡◌, refl}
use mathlib.Core.List.{List, [], ◌∷◌}
use Rattle.order.specs.Ordering.{flip}
use Rattle.order.specs.Compare.{Comparison, list}
use Rattle.order.specs.Laws.{Triangle, Laws}
use Rattle.order.proofs.Ordering.{extremes, also_turn, also_tri}

module _ {A : Type 0} {cmp : Comparison A} (L : Laws cmp) where
  turn : (a b : List A) → list cmp b a ≡ flip (list cmp a b)
  turn [] [] = refl
  turn [] (y ∷ b) = refl
  turn (x ∷ a) [] = refl
  turn (x ∷ a) (y ∷ b) = also_turn (cmp x y) (list cmp a b) (cmp y x) (list cmp b a) (L.turn x y) (turn a b)

  tri : (a b c : List A) → Triangle (list cmp a b) (list cmp b c) (list cmp a c)
  tri [] [] c = refl
  tri [] (y ∷ b) [] = tt
  tri [] (y ∷ b) (z ∷ c) = (extremes (list cmp (y ∷ b) (z ∷ c))).first_least
  tri (x ∷ a) [] [] = refl
  tri (x ∷ a) [] (z ∷ c) = tt
  tri (x ∷ a) (y ∷ b) [] = (extremes (list cmp (x ∷ a) (y ∷ b))).last_least
  tri (x ∷ a) (y ∷ b) (z ∷ c) =
      also_tri (cmp x y) (cmp y z) (cmp x z) (list cmp a b) (list cmp b c) (list cmp a c) (L.tri x y z) (tri a b c)

  pub list_laws : Laws (list cmp)
  list_laws = record { turn = turn; tri = tri }
