-- Looking a row up: what `looked` says of a text, for the verdict and the row that reading the text gives.
use Rattle.answers.specs.declared.RefusedInput.TheVariants.{First}
use Rattle.answers.specs.declared.RefusedInput.{RefusedInput}
use Rattle.answers.specs.declared.Refusal.{Refusal}
use Rattle.std.specs.Prelude.{Bool, List, map, ℕ, Result, Ok, Err}
use Rattle.answers.specs.Refusal.{refusal}
use Rattle.ranges.specs.Cut.{before}
use Rattle.ranges.specs.Range.{Range, mem}
use Rattle.version_reading.specs.declared.text.Verdict.{Verdict}
use Rattle.list_ends.specs.Cut.{Place}
use Rattle.table_reading.specs.Table.{Tabled, refused, ranges, table_of}
use Rattle.table_reading.specs.Lookup.{judged}
use Rattle.table_lookup.specs.Rows.{RowPlace, le_row, rowed}

abbrev pub range_rowed : Range Place → Range RowPlace
range_rowed r = record { lo = rowed r.lo; hi = rowed r.hi }

-- whether one of the ranges holds the version with that row
abbrev pub holds_row : List (Range Place) → List ℕ → Bool
holds_row T row = mem le_row (map range_rowed T) (before row)

-- the answer to a table that is not well formed
abbrev pub bad_table : Result Bool Refusal
bad_table = Err (refusal 18 0)

abbrev pub searched_for : List ℕ → Tabled → Result Bool Refusal
searched_for row (refused number place) = Err (refusal number place)
searched_for row (ranges T) = Ok (holds_row T row)

-- the table is judged before the version
abbrev pub told : Verdict → Result Bool Refusal → Result Bool RefusedInput
told verdict (Err x) = Err (First x)
told verdict (Ok held) = judged verdict held

unfoldable pub looked_row : List ℕ → Verdict → List ℕ → Result Bool RefusedInput
looked_row table verdict row = told verdict (searched_for row (table_of table))
