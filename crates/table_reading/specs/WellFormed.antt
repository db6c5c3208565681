-- What is said of the ranges of a well-formed table.
use Rattle.std.specs.Prelude.{◌≡◌, List, [], ◌∷◌, ◌≤◌, length, None}
use Rattle.order.specs.All.{All}
use Rattle.ranges.specs.Cut.{bot, top}
use Rattle.ranges.specs.Range.{Range}
use Rattle.ranges.specs.Table.{Asc}
use Rattle.list_ends.specs.Cut.{Place, le_place}
use Rattle.list_ends.specs.Writable.{Written}

-- none below comes only first
abbrev pub BelowFirst : List (Range Place) → Type 0
BelowFirst [] = Unit {0}
BelowFirst (r ∷ T) = All (λ q. q.lo ≡ bot → ⊥) T

-- none above comes only last
abbrev pub AboveLast : List (Range Place) → Type 0
AboveLast [] = Unit {0}
AboveLast (r ∷ []) = Unit {0}
AboveLast (r ∷ q ∷ T) = (r.hi ≡ top → ⊥) × AboveLast (q ∷ T)

-- at most 17 ranges, which ascend strictly and stay apart, and whose versions are readable and have no label
pub record WellFormed (T : List (Range Place)) : Type 0 where
  pub few : length T ≤ 17
  pub ascend : Asc le_place None T
  pub first : BelowFirst T
  pub last : AboveLast T
  pub ends : All Written T
