-- Worked points, by computation. They anchor the definitions against changes that would keep every law and still be wrong, as a list's
-- proper beginning put last. Assumes nothing.
use Rattle.std.specs.Prelude.{None, Some}
use mathlib.Core.Path.{◌≡◌, refl}
use mathlib.Core.List.{[], ◌∷◌}
use Prim.Native.Nat.{compare}
use Rattle.order.specs.Ordering.{lt, eq, gt}
use Rattle.order.specs.Compare.{list, padded, option}

pub second_decides : padded compare 0 (4 ∷ 9 ∷ []) (4 ∷ 10 ∷ []) ≡ lt
second_decides = refl

pub shorter_is_padded : padded compare 0 (4 ∷ []) (4 ∷ 0 ∷ []) ≡ eq
shorter_is_padded = refl

pub padding_is_compared : padded compare 0 (4 ∷ 0 ∷ 1 ∷ []) (4 ∷ []) ≡ gt
padding_is_compared = refl

pub beginning_first : list compare (4 ∷ []) (4 ∷ 0 ∷ []) ≡ lt
beginning_first = refl

pub missing_below : option compare None (Some 0) ≡ lt
missing_below = refl
