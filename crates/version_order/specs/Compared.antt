-- What comparing two texts answers: the first text is judged first, and the answer says which one was refused.
use Rattle.answers.specs.declared.RefusedInput.TheVariants.{First, Second}
use Rattle.std.specs.declared.cmp.Ordering.TheVariants.{Less, Equal, Greater}
use Rattle.answers.specs.declared.RefusedInput.{RefusedInput}
use Rattle.std.specs.Prelude.{List, ℕ, Result, Ok, Err}
use Rattle.std.specs.declared.cmp.Ordering.{Ordering as Order}
use Rattle.std.specs.declared.cmp.Ordering.TheVariants.{Less as Below, Equal as Same, Greater as Above}
use Rattle.order.specs.Answer.{name_of}
use Rattle.version_reading.specs.declared.text.Verdict.{Verdict}
use Rattle.version_reading.specs.declared.text.Verdict.TheVariants.{Accepted, Refused}
use Rattle.version_reading.specs.Reading.{version_of}
use Rattle.version_reading.specs.Value.{value_in}
use Rattle.version_order.specs.Versions.{compare_values}

abbrev pub answered : Order → Result Order RefusedInput
answered Below = Ok Less
answered Same = Ok Equal
answered Above = Ok Greater

-- by the verdicts on the two texts
abbrev pub judged : Verdict → Verdict → Order → Result Order RefusedInput
judged (Refused refusal) second order = Err (First refusal)
judged Accepted (Refused refusal) order = Err (Second refusal)
judged Accepted Accepted order = answered order

unfoldable pub compared : List ℕ → List ℕ → Result Order RefusedInput
compared first second =
    judged (version_of first).verdict (version_of second).verdict (name_of (compare_values (value_in first) (value_in second)))
