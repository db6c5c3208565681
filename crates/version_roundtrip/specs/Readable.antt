-- Which values a text can say, if it has room for them.
use Rattle.chars.specs.declared.spelling.PreKind.{PreKind}
use Rattle.std.specs.Prelude.{◌≡◌, true, List, [], ℕ, ◌^◌, ◌≤◌, ◌<◌, length, Option, None, Some}
use Rattle.order.specs.All.{All}
use Rattle.chars.specs.Class.{digit, letter, between}
use Rattle.chars.specs.Case.{lowered}
use Rattle.version_reading.specs.declared.segment.Segment.TheVariants.{Text}
use Rattle.version_reading.specs.Segment.{segment_of}
use Rattle.version_reading.specs.Value.{LocalSegment, number, text, Value}

-- a number of 64 bits
abbrev pub Fits : ℕ → Type 0
Fits n = n < 2 ^ 64

abbrev pub PreFits : Option (PreKind × ℕ) → Type 0
PreFits None = Unit {0}
PreFits (Some (kind, n)) = Fits n

abbrev pub PartFits : Option ℕ → Type 0
PartFits None = Unit {0}
PartFits (Some n) = Fits n

-- a letter or a digit
abbrev pub Plain : ℕ → Type 0
Plain b = between digit letter b ≡ true

-- the bytes of a segment: letters and digits, at least one
pub record IsSegment (bytes : List ℕ) : Type 0 where
  pub some : 0 < length bytes
  pub plain : All Plain bytes

-- a segment that is text: in lower case, and not a number of 64 bits
pub record IsWord (bytes : List ℕ) : Type 0 where
  pub segment : IsSegment bytes
  pub lower : lowered bytes ≡ bytes
  pub spells : segment_of bytes ≡ Text

abbrev pub LabelFits : LocalSegment → Type 0
LabelFits (number n) = Fits n
LabelFits (text bytes) = IsWord bytes

pub record Readable (v : Value) : Type 0 where
  pub epoch : Fits v.epoch
  pub some : 1 ≤ length v.release
  pub few : length v.release ≤ 16
  pub release : All Fits v.release
  pub pre : PreFits v.pre
  pub post : PartFits v.post
  pub dev : PartFits v.dev
  pub short : length v.label ≤ 16
  pub label : All LabelFits v.label

-- a version whose normal text is read back, without local
pub record Writable (v : Value) : Type 0 where
  pub readable : Readable v
  pub unlabelled : v.label ≡ []
