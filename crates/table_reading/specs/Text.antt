-- The bytes of a table: a record with the count, then two records for each range.
use Rattle.std.specs.Prelude.{List, [], ◌∷◌, ◌++◌, ℕ, length}
use Rattle.records.specs.Record.{two_bytes_of, record_text}
use Rattle.ranges.specs.Cut.{bot, top, before, after}
use Rattle.ranges.specs.Range.{Range}
use Rattle.version_roundtrip.specs.Text.{value_text}
use Rattle.list_ends.specs.Cut.{Place}
use Rattle.table_reading.specs.Kind.{range_count, none_below, from_before, from_after, none_above, to_before, to_after}

abbrev pub lower_kind : Place → ℕ
lower_kind bot = none_below
lower_kind top = none_below
lower_kind (before v) = from_before
lower_kind (after v) = from_after

abbrev pub upper_kind : Place → ℕ
upper_kind bot = none_above
upper_kind top = none_above
upper_kind (before v) = to_before
upper_kind (after v) = to_after

-- V's normal text, where there is a V
abbrev pub body_text : Place → List ℕ
body_text bot = []
body_text top = []
body_text (before v) = value_text v
body_text (after v) = value_text v

abbrev pub lower_text : Place → List ℕ
lower_text p = record_text (lower_kind p) (body_text p)

abbrev pub upper_text : Place → List ℕ
upper_text p = record_text (upper_kind p) (body_text p)

unfoldable pub ranges_text : List (Range Place) → List ℕ
ranges_text [] = []
ranges_text (r ∷ T) = lower_text r.lo ++ (upper_text r.hi ++ ranges_text T)

unfoldable pub table_text : List (Range Place) → List ℕ
table_text T = record_text range_count (two_bytes_of (length T)) ++ ranges_text T
