-- The word that stands beside a version's fields, where the version is small.
use Rattle.chars.specs.declared.spelling.PreKind.{PreKind}
use Rattle.std.specs.Prelude.{Bool, true, false, ◌&&◌, List, ℕ, Option, Some, None}
use Rattle.version_reading.specs.declared.plain.Plain.{Plain}
use Rattle.version_reading.specs.declared.text.Verdict.{Verdict}
use Rattle.version_reading.specs.declared.text.Verdict.TheVariants.{Accepted, Refused}
use Rattle.version_reading.specs.Reading.{version_of}
use Rattle.version_reading.specs.Value.{Value, value_in}
use Rattle.version_word.specs.declared.packed.Word.{Word}
use Rattle.version_word.specs.Small.{small_numbers, numbers_word, only_suffix, small_suffix, with_suffix, is_small, word_of}

abbrev pub word_is : ℕ → Word
word_is n = record { 0 = n }

-- by whether the version is small
abbrev pub word_if : Bool → ℕ → Option Word
word_if true n = Some (word_is n)
word_if false n = None

unfoldable pub word_beside : Value → Option Word
word_beside v = word_if (is_small v) (word_of v)

-- of a version that has no epoch, no label and these four release numbers, those that are not there being 0
unfoldable pub packed_word : ℕ → ℕ → ℕ → ℕ → Option (PreKind × ℕ) → Option ℕ → Option ℕ → Option Word
packed_word first second third fourth pre post dev =
    word_if (small_numbers first second third fourth && small_suffix (only_suffix pre post dev))
    (with_suffix (numbers_word first second third fourth) pre post dev)

-- of a plain version, which is that of the whole one (`plain_word`)
unfoldable pub word_of_plain : Plain → Option Word
word_of_plain v = packed_word v.first v.second v.third v.fourth v.pre v.post v.dev

-- by the verdict on the text
abbrev pub beside_by : Verdict → Value → Option Word
beside_by Accepted v = word_beside v
beside_by (Refused refusal) v = None

-- of the version that a text says; none where it is refused
unfoldable pub word_in : List ℕ → Option Word
word_in s = beside_by (version_of s).verdict (value_in s)
