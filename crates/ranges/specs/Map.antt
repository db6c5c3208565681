-- Ranges and shapes under other names for their ends: code keeps small numbers for ends, and a function says which cut each stands for.
-- Definitions only; assumes nothing.
use Rattle.ranges.specs.Range.{Range}
use Rattle.ranges.specs.Shape.{Shape, span, hole}

module _ {P Q : Type 0} (f : P → Q) where
  -- the range between what the two ends stand for
  abbrev pub map_range : Range P → Range Q
  map_range r = record { lo = f r.lo; hi = f r.hi }

  -- the shape of the same kind between what its two ends stand for
  abbrev pub map_shape : Shape P → Shape Q
  map_shape (span lo hi) = span (f lo) (f hi)
  map_shape (hole lo hi) = hole (f lo) (f hi)
