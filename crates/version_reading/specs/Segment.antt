-- The segments of a local label: their bytes, and whether those say a number or text.
use Rattle.std.specs.Prelude.{◌≡◌, cond, List, [], ℕ, ◌-◌, ◌≤◌, eqb, leb, length, get_or, take, drop, Result, Ok, Err}
use Rattle.decimal.specs.declared.parse.NumberError.{NumberError}
use Rattle.decimal.specs.Parse.{number_of, digits_of}
use Rattle.version_parts.specs.declared.fields.Span.{Span}
use Rattle.version_parts.specs.declared.fields.Local.{Local}
use Rattle.version_parts.specs.Fields.{no_span}
use Rattle.version_reading.specs.declared.segment.Segment.{Segment}
use Rattle.version_reading.specs.declared.segment.Segment.TheVariants.{Number as IsNumber, Text}
use Rattle.version_reading.specs.Reading.{version_of}

abbrev pub numbered : Result ℕ NumberError → Segment
numbered (Ok n) = IsNumber n
numbered (Err e) = Text

-- what reads as a number below 2^64 is one, and all else is text
unfoldable pub segment_of : List ℕ → Segment
segment_of bytes = cond (eqb (digits_of bytes) (length bytes)) (numbered (number_of bytes)) Text

abbrev pub spanned : List ℕ → Span → List ℕ
spanned s g = take (g.end - g.start) (drop g.start s)

-- the bytes of the segment with that index, of which there are at most 16
unfoldable pub segment_bytes : List ℕ → Local → ℕ → List ℕ
segment_bytes s l i = cond (leb l.len i) [] (cond (leb 16 i) [] (spanned s (get_or l.spans i no_span)))

-- r is those bytes; a span is told in 16 bits
pub record BytesOf (s : List ℕ) (l : Local) (i : ℕ) (r : List ℕ) : Type 0 where
  pub is : r ≡ segment_bytes s l i
  pub short : length r ≤ 65535

-- the bytes where they are text
abbrev pub text_only : List ℕ → Segment → List ℕ
text_only bytes (IsNumber n) = []
text_only bytes Text = bytes

-- a refused text has no segments
unfoldable pub segment_text : List ℕ → ℕ → List ℕ
segment_text s i =
    let bytes = segment_bytes s (version_of s).version.local i in
    text_only bytes (segment_of bytes)
