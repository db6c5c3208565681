-- Looking a version up: the table is judged before the version.
use Rattle.answers.specs.declared.RefusedInput.TheVariants.{First, Second}
use Rattle.answers.specs.declared.RefusedInput.{RefusedInput}
use Rattle.std.specs.Prelude.{Bool, List, ℕ, Result, Err}
use Rattle.answers.specs.Refusal.{refusal}
use Rattle.answers.specs.YesNo.{yes_or_no}
use Rattle.ranges.specs.Cut.{before}
use Rattle.ranges.specs.Range.{mem}
use Rattle.version_reading.specs.declared.text.Verdict.{Verdict}
use Rattle.version_reading.specs.declared.text.Verdict.TheVariants.{Accepted, Refused}
use Rattle.version_reading.specs.Reading.{version_of}
use Rattle.version_reading.specs.Value.{Value, value_in}
use Rattle.list_ends.specs.Cut.{le_place}
use Rattle.table_reading.specs.Table.{Tabled, refused, ranges, table_of}

abbrev pub judged : Verdict → Bool → Result Bool RefusedInput
judged (Refused refusal) held = Err (Second refusal)
judged Accepted held = yes_or_no held

-- a version stands right before itself: it lies between two ends exactly if that place does
abbrev pub looked_up : Tabled → Verdict → Value → Result Bool RefusedInput
looked_up (refused number place) verdict w = Err (First (refusal number place))
looked_up (ranges T) verdict w = judged verdict (mem le_place T (before w))

unfoldable pub looked : List ℕ → List ℕ → Result Bool RefusedInput
looked table text = looked_up (table_of table) (version_of text).verdict (value_in text)
