-- The ranges that numbers of ends say.
use Rattle.std.specs.Prelude.{List, map, ℕ}
use Rattle.ranges.specs.Range.{Range}
use Rattle.ranges.specs.Map.{map_range}
use Rattle.list_ends.specs.Cut.{Place}
use Rattle.list_ends.specs.Number.{place_number}
use Rattle.list_fold.specs.declared.numbered_ranges.NumberedRange.{NumberedRange}
use Rattle.list_fold.specs.Ranges.{range_of}

-- those of the list s
abbrev pub said_by : List ℕ → List NumberedRange → List (Range Place)
said_by s ranges = map (map_range (place_number s)) (map range_of ranges)
