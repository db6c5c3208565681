-- The shapes of the six comparisons with one value v. Definitions only; assumes nothing.
use Rattle.ranges.specs.Shape.{Shape, span, hole}
use Rattle.ranges.specs.Cut.{Cut, bot, top, before, after}

module _ {X : Type 0} (v : X) where
  -- ==v
  abbrev pub equal_to : Shape (Cut X)
  equal_to = span (before v) (after v)

  -- !=v
  abbrev pub other_than : Shape (Cut X)
  other_than = hole (before v) (after v)

  -- <=v
  abbrev pub up_to : Shape (Cut X)
  up_to = span bot (after v)

  -- >=v
  abbrev pub from : Shape (Cut X)
  from = span (before v) top

  -- <v
  abbrev pub below : Shape (Cut X)
  below = span bot (before v)

  -- >v
  abbrev pub above : Shape (Cut X)
  above = span (after v) top
