-- Yes or no, by a test.
use Rattle.answers.specs.declared.RefusedInput.TheVariants.{First, Second}
use Rattle.answers.specs.declared.RefusedInput.{RefusedInput}
use Rattle.std.specs.Prelude.{Bool, true, false, Result, Ok, Err}

abbrev pub yes_or_no : Bool → Result Bool RefusedInput
yes_or_no true = Ok true
yes_or_no false = Ok false

abbrev pub says_yes : Result Bool RefusedInput → Bool
says_yes (Ok true) = true
says_yes (Ok false) = false
says_yes (Err (First refusal)) = false
says_yes (Err (Second refusal)) = false
