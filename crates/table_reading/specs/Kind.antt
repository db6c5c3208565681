-- The kind decides by number.
use Rattle.std.specs.Prelude.{ℕ, Bool, true, false, cond, eqb}
use Rattle.list_ends.specs.declared.end.Side.{Side}
use Rattle.list_ends.specs.declared.end.Side.TheVariants.{Bottom, Top, Before, After}
use Rattle.table_reading.specs.declared.kind.Due.{Due}
use Rattle.table_reading.specs.declared.kind.Due.TheVariants.{Lower, Upper}
use Rattle.table_reading.specs.declared.kind.Kind.{Kind}
use Rattle.table_reading.specs.declared.kind.Kind.TheVariants.{Count, End, Unknown}

-- the count of the ranges
abbrev pub range_count : ℕ
range_count = 1

-- a lower end: none below, before V, after V
abbrev pub none_below : ℕ
none_below = 2

abbrev pub from_before : ℕ
from_before = 3

abbrev pub from_after : ℕ
from_after = 4

-- an upper end: none above, before V, after V
abbrev pub none_above : ℕ
none_above = 5

abbrev pub to_before : ℕ
to_before = 6

abbrev pub to_after : ℕ
to_after = 7

abbrev pub lower_end : Side → Kind
lower_end side = End Lower side

abbrev pub upper_end : Side → Kind
upper_end side = End Upper side

unfoldable pub kind_of : ℕ → Kind
kind_of number =
    cond (eqb number range_count) Count
    (cond (eqb number none_below) (lower_end Bottom)
    (cond (eqb number from_before) (lower_end Before)
    (cond (eqb number from_after) (lower_end After)
    (cond (eqb number none_above) (upper_end Top)
    (cond (eqb number to_before) (upper_end Before)
    (cond (eqb number to_after) (upper_end After) Unknown))))))

-- whether an end is the one that is due
abbrev pub is_due : Due → Due → Bool
is_due Lower Lower = true
is_due Lower Upper = false
is_due Upper Lower = false
is_due Upper Upper = true
