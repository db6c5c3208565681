-- Texts that are the normal text of a version without local, as the ends of a table have them.
use Rattle.std.specs.Prelude.{◌≡◌, Bool, true, false, cond, List, [], ℕ, eqb, Option, None, Some, Result, Ok, Err}
use Rattle.chars.specs.Same.{same_bytes}
use Rattle.version_reading.specs.declared.text.Verdict.{Verdict}
use Rattle.version_reading.specs.declared.text.Verdict.TheVariants.{Accepted, Refused}
use Rattle.version_reading.specs.Reading.{version_of}
use Rattle.version_reading.specs.Value.{Value, value_of, value_in}
use Rattle.version_normal.specs.Normal.{normal_text}
use Rattle.version_parts.specs.declared.fields.Version.{Version}
use Rattle.version_rows.specs.Row.{row_of}

-- V: an accepted version without local, in normal text
abbrev pub in_normal_text : Verdict → List ℕ → Option Value
in_normal_text (Refused refusal) text = None
in_normal_text Accepted text =
    cond (eqb (version_of text).version.local.len 0)
    (cond (same_bytes (normal_text text) text) (Some (value_in text)) None)
    None

unfoldable pub normal_value : List ℕ → Option Value
normal_value text = in_normal_text (version_of text).verdict text

abbrev pub is_there : Option Value → Bool
is_there None = false
is_there (Some v) = true

-- the fields that were read, also where they do not count
abbrev pub fields_in : Result Version Version → Version
fields_in (Ok v) = v
fields_in (Err v) = v

-- what those that count say, which have no label
abbrev pub value_said : Result Version Version → Option Value
value_said (Ok v) = Some (value_of [] v)
value_said (Err v) = None

pub record NormalRead (text : List ℕ) (r : Result Version Version) : Type 0 where
  pub fields : fields_in r ≡ (version_of text).version
  pub said : value_said r ≡ normal_value text

-- the row of the value that is there; of none, the row as it was
abbrev pub row_or : Option Value → List ℕ → List ℕ
row_or None old = old
row_or (Some v) old = row_of v

pub record NormalRow (text old new : List ℕ) (r : Bool) : Type 0 where
  pub is : r ≡ is_there (normal_value text)
  pub leaves : new ≡ row_or (normal_value text) old
