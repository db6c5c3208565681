-- What a version's word is answered by: that a version has none is no refusal.
use Rattle.answers.specs.declared.Refusal.{Refusal}
use Rattle.std.specs.Prelude.{Bool, true, false, List, ℕ, Option, Result, Some, Ok, None, Err}
use Rattle.version_reading.specs.declared.text.Verdict.{Verdict}
use Rattle.version_reading.specs.declared.text.Verdict.TheVariants.{Accepted, Refused as NotRead}
use Rattle.version_reading.specs.Reading.{version_of}
use Rattle.version_reading.specs.Value.{Value, value_in}
use Rattle.version_word.specs.declared.packed.Word.{Word}
use Rattle.version_word.specs.Small.{is_small, word_of}
use Rattle.version_word.specs.Beside.{word_is}

abbrev pub worded_if : Bool → ℕ → Result (Option Word) Refusal
worded_if true n = Ok (Some (word_is n))
worded_if false n = Ok None

unfoldable pub worded : Value → Result (Option Word) Refusal
worded v = worded_if (is_small v) (word_of v)

-- by the verdict on the text
abbrev pub judged : Verdict → Value → Result (Option Word) Refusal
judged Accepted v = worded v
judged (NotRead refusal) v = Err refusal

unfoldable pub word_answer : List ℕ → Result (Option Word) Refusal
word_answer s = judged (version_of s).verdict (value_in s)
