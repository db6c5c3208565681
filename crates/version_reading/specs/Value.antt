-- What a version says, apart from how its text spells it: two readings have the same fields when their values are equal.
use Rattle.chars.specs.declared.spelling.PreKind.{PreKind}
use Rattle.std.specs.Prelude.{List, [], ◌∷◌, ℕ, zero, suc, min, take, Option}
use Rattle.chars.specs.Case.{lowered}
use Rattle.version_parts.specs.declared.fields.Version.{Version}
use Rattle.version_reading.specs.declared.segment.Segment.{Segment}
use Rattle.version_reading.specs.declared.segment.Segment.TheVariants.{Number as IsNumber, Text as IsText}
use Rattle.version_reading.specs.Reading.{version_of}
use Rattle.version_reading.specs.Segment.{segment_of, segment_bytes}

-- a segment of a label: a number, or text in lower case
pub data LocalSegment : Type 0 where
  number : ℕ → LocalSegment
  text : List ℕ → LocalSegment

pub record Value : Type 0 where
  pub epoch : ℕ
  pub release : List ℕ
  pub pre : Option (PreKind × ℕ)
  pub post : Option ℕ
  pub dev : Option ℕ
  pub label : List LocalSegment

-- a version without its label
abbrev pub without_label : Value → Value
without_label v = record {
  epoch = v.epoch;
  release = v.release;
  pre = v.pre;
  post = v.post;
  dev = v.dev;
  label = [];
}

abbrev pub label_as : List ℕ → Segment → LocalSegment
label_as bytes (IsNumber n) = number n
label_as bytes IsText = text (lowered bytes)

unfoldable pub label_from : List ℕ → LocalSegment
label_from bytes = label_as bytes (segment_of bytes)

-- the elements number i, i + 1, .., `count` of them
unfoldable pub listed : {A : Type 0} → (ℕ → A) → ℕ → ℕ → List A
listed f i zero = []
listed f i (suc count) = f i ∷ listed f (suc i) count

-- the fields v, whose label lies in s
unfoldable pub value_of : List ℕ → Version → Value
value_of s v = record {
  epoch = v.epoch;
  release = take v.release.len v.release.numbers;
  pre = v.pre;
  post = v.post;
  dev = v.dev;
  label = listed (λ i. label_from (segment_bytes s v.local i)) 0 (min v.local.len 16);
}

-- the value that an accepted text says
abbrev pub value_in : List ℕ → Value
value_in s = value_of s (version_of s).version
