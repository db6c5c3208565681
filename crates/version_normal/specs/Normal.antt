-- The normal text of a version, part by part.
use Rattle.answers.specs.declared.Refusal.{Refusal}
use Rattle.std.specs.Prelude.{◌≡◌, List, [], ◌∷◌, ◌++◌, ℕ, zero, suc, min, get_or, Option, None, Some, Result, Err}
use Prim.Native.Char.{code}
use Rattle.answers.specs.Printed.{answer, filled}
use Rattle.chars.specs.Text.{ascii}
use Rattle.chars.specs.Case.{lowered}
use Rattle.chars.specs.declared.spelling.PreKind.{PreKind}
use Rattle.chars.specs.declared.spelling.PreKind.TheVariants.{Alpha, Beta, Rc}
use Rattle.decimal.specs.Digits.{decimal}
use Rattle.version_parts.specs.declared.fields.Release.{Release}
use Rattle.version_parts.specs.declared.fields.Local.{Local}
use Rattle.version_parts.specs.declared.fields.Version.{Version}
use Rattle.version_reading.specs.declared.segment.Segment.{Segment}
use Rattle.version_reading.specs.declared.segment.Segment.TheVariants.{Number, Text}
use Rattle.version_reading.specs.declared.text.Verdict.{Verdict}
use Rattle.version_reading.specs.declared.text.Verdict.TheVariants.{Accepted, Refused}
use Rattle.version_reading.specs.Reading.{version_of}
use Rattle.version_reading.specs.Segment.{segment_of, segment_bytes}

-- the texts number i, i + 1, .., `count` of them, each after a dot
unfoldable pub dotted : (ℕ → List ℕ) → ℕ → ℕ → List ℕ
dotted text i zero = []
dotted text i (suc count) = code "." ∷ (text i ++ dotted text (suc i) count)

-- the texts number 0 to count - 1, joined by dots
unfoldable pub joined : (ℕ → List ℕ) → ℕ → List ℕ
joined text zero = []
joined text (suc count) = text 0 ++ dotted text 1 count

-- the epoch and `!`, unless it is 0
unfoldable pub epoch_text : ℕ → List ℕ
epoch_text zero = []
epoch_text (suc n) = decimal (suc n) ++ ascii "!"

-- trailing zeros stay
unfoldable pub release_text : Release → List ℕ
release_text r = joined (λ i. decimal (get_or r.numbers i 0)) (min r.len 16)

abbrev pub kind_text : PreKind → List ℕ
kind_text Alpha = ascii "a"
kind_text Beta = ascii "b"
kind_text Rc = ascii "rc"

abbrev pub pre_text : Option (PreKind × ℕ) → List ℕ
pre_text None = []
pre_text (Some (kind, n)) = kind_text kind ++ decimal n

abbrev pub part_text : List ℕ → Option ℕ → List ℕ
part_text name None = []
part_text name (Some n) = name ++ decimal n

-- a number without zeros in front, or text in lower case
abbrev pub segment_as : List ℕ → Segment → List ℕ
segment_as bytes (Number n) = decimal n
segment_as bytes Text = lowered bytes

unfoldable pub segment_text : List ℕ → List ℕ
segment_text bytes = segment_as bytes (segment_of bytes)

abbrev pub labelled : (ℕ → List ℕ) → ℕ → List ℕ
labelled text zero = []
labelled text (suc count) = code "+" ∷ joined text (suc count)

-- the label, whose segments are places in s
unfoldable pub label_text : List ℕ → Local → List ℕ
label_text s l = labelled (λ i. segment_text (segment_bytes s l i)) (min l.len 16)

unfoldable pub front_text : Version → List ℕ
front_text v = (epoch_text v.epoch ++ release_text v.release) ++ pre_text v.pre

unfoldable pub back_text : List ℕ → Version → List ℕ
back_text s v = (part_text (ascii ".post") v.post ++ part_text (ascii ".dev") v.dev) ++ label_text s v.local

unfoldable pub version_text : List ℕ → Version → List ℕ
version_text s v = front_text v ++ back_text s v

-- the normal text of the version that a text says
unfoldable pub normal_text : List ℕ → List ℕ
normal_text s = version_text s (version_of s).version

-- the text's own refusal comes first, and then leaves the buffer as it was
abbrev pub answer_to : Verdict → List ℕ → List ℕ → Result ℕ Refusal
answer_to Accepted text buf = answer text buf
answer_to (Refused refusal) text buf = Err refusal

abbrev pub filled_to : Verdict → List ℕ → List ℕ → List ℕ
filled_to Accepted text buf = filled text buf
filled_to (Refused refusal) text buf = buf

pub record NormalPrinted (s old new : List ℕ) (r : Result ℕ Refusal) : Type 0 where
  pub answers : r ≡ answer_to (version_of s).verdict (normal_text s) old
  pub leaves : new ≡ filled_to (version_of s).verdict (normal_text s) old
