-- How a table is made: from the one range of everything, each shape in turn cuts the ranges down to what it accepts.
-- Definitions only; assumes nothing.
use Rattle.std.specs.Prelude.{List, [], ◌∷◌, ◌++◌, Bool, cond}
use Rattle.ranges.specs.Range.{Range}
use Rattle.ranges.specs.Shape.{Shape, span, hole}

module _ {P : Type 0} (le : P → P → Bool) where
  -- the greater of two ends; of equal ones the old, so that an end gives way only to one that is strictly tighter. This is for lower ends:
  -- with `le` turned round it is the smaller of two, for upper ends
  abbrev pub tighter : P → P → P
  tighter new old = cond (le new old) old new

  -- the range in front of the others, unless it is empty
  abbrev pub keep : Range P → List (Range P) → List (Range P)
  keep r T = cond (le r.hi r.lo) T (r ∷ T)

module _ {P : Type 0} (le : P → P → Bool) where
  -- the part of a range between two ends; it may be empty
  abbrev pub narrow : P → P → Range P → Range P
  narrow lo hi r = record { lo = tighter le lo r.lo; hi = tighter (λ a b. le b a) hi r.hi }

  -- the parts of all ranges between two ends, without the empty ones
  abbrev pub clip : P → P → List (Range P) → List (Range P)
  clip lo hi [] = []
  clip lo hi (r ∷ T) = keep le (narrow lo hi r) (clip lo hi T)

  module _ (bot top : P) where
    -- the parts of all ranges that a shape accepts; of a hole, first all that lie below it and then all that lie above, which is again in
    -- ascending order
    abbrev pub step : Shape P → List (Range P) → List (Range P)
    step (span lo hi) T = clip lo hi T
    step (hole lo hi) T = clip bot lo T ++ clip hi top T

    -- the parts of all ranges that all shapes accept, shape by shape
    abbrev pub compile : List (Range P) → List (Shape P) → List (Range P)
    compile T [] = T
    compile T (s ∷ ss) = compile (step s T) ss

    -- the table of a list of shapes
    abbrev pub table : List (Shape P) → List (Range P)
    table ss = compile (record { lo = bot; hi = top } ∷ []) ss
