-- Ranges by the numbers of their ends, in an array.
use Rattle.std.specs.Prelude.{◌≡◌, List, ◌++◌, map, ℕ, ◌-◌, ◌≤◌, length, take, replicate}
use Rattle.ranges.specs.Range.{Range}
use Rattle.list_fold.specs.declared.numbered_ranges.NumberedRange.{NumberedRange}
use Rattle.list_fold.specs.declared.numbered_ranges.NumberedRanges.{NumberedRanges}

abbrev pub range : ℕ → ℕ → Range ℕ
range lo hi = record { lo = lo; hi = hi }

-- the range that two numbers say, and back
abbrev pub range_of : NumberedRange → Range ℕ
range_of r = range r.low r.high

abbrev pub numbers_of : Range ℕ → NumberedRange
numbers_of r = record { low = r.lo; high = r.hi }

-- the ranges that the first ones say
unfoldable pub ranges_in : NumberedRanges → List (Range ℕ)
ranges_in r = map range_of (take r.count r.list)

-- an array of 34: these, and blanks after them
abbrev pub with_blanks : List NumberedRange → List NumberedRange
with_blanks l = l ++ replicate (34 - length l) (record { low = 0; high = 0 })

unfoldable pub packed : List (Range ℕ) → NumberedRanges
packed T = record { list = with_blanks (map numbers_of T); count = length T }

-- r holds exactly these ranges; their count stands apart, where arithmetic can see it
pub record Holds (most : ℕ) (T : List (Range ℕ)) (r : NumberedRanges) : Type 0 where
  pub is : r ≡ packed T
  pub few : r.count ≤ most
