-- The fields of a version as 89 numbers: nine parts, sixteen release numbers, and four numbers for each of sixteen segments.
use Rattle.std.specs.Prelude.{List, [], ◌∷◌, ◌++◌, cond, ℕ, zero, suc, ltb, get_or, Option, None, Some}
use Rattle.version_parts.specs.declared.fields.Span.{Span}
use Rattle.version_parts.specs.declared.fields.Local.{Local}
use Rattle.version_parts.specs.declared.fields.Version.{Version}
use Rattle.version_reading.specs.declared.segment.Segment.{Segment}
use Rattle.version_reading.specs.declared.segment.Segment.TheVariants.{Number, Text}
use Rattle.version_reading.specs.declared.text.Verdict.{Verdict}
use Rattle.version_reading.specs.declared.text.Verdict.TheVariants.{Accepted, Refused}
use Rattle.version_parts.specs.Fields.{no_span}
use Rattle.version_reading.specs.Reading.{version_of}
use Rattle.version_reading.specs.Segment.{segment_of, segment_bytes}
use Rattle.boundary_fields.specs.declared.pair.Pair.{Pair}
use Rattle.boundary_fields.specs.Pair.{pre_pair, part_pair, segment_pair}

unfoldable pub span_at : Local → ℕ → Span
span_at l i = cond (ltb i 16) (get_or l.spans i no_span) no_span

-- epoch, pre, post, dev, and how many release numbers and segments there are
abbrev pub parts : Version → List ℕ
parts v =
    v.epoch
    ∷ (pre_pair v.pre).kind
    ∷ (pre_pair v.pre).number
    ∷ (part_pair v.post).kind
    ∷ (part_pair v.post).number
    ∷ (part_pair v.dev).kind
    ∷ (part_pair v.dev).number
    ∷ v.release.len
    ∷ v.local.len
    ∷ []

abbrev pub row : Pair → Span → List ℕ
row p g = p.kind ∷ p.number ∷ g.start ∷ g.end ∷ []

-- whether the segment with that index is a text, its number where it is none, and where it lies
unfoldable pub segment_row : List ℕ → Local → ℕ → List ℕ
segment_row s l i = row (segment_pair (segment_of (segment_bytes s l i))) (span_at l i)

-- `count` rows, from one on
unfoldable pub segment_rows : List ℕ → Local → ℕ → ℕ → List ℕ
segment_rows s l i zero = []
segment_rows s l i (suc count) = segment_row s l i ++ segment_rows s l (suc i) count

unfoldable pub fields_of : List ℕ → Version → List ℕ
fields_of s v = parts v ++ (v.release.numbers ++ segment_rows s v.local 0 16)

-- a refused text leaves the lent numbers as they were
abbrev pub fields_by : Verdict → List ℕ → Version → List ℕ → List ℕ
fields_by Accepted s v old = fields_of s v
fields_by (Refused x) s v old = old

-- and so does a reader of lumps that has nothing to say
abbrev pub fields_said : Option Verdict → List ℕ → Version → List ℕ → List ℕ
fields_said None s v old = old
fields_said (Some verdict) s v old = fields_by verdict s v old

-- where the text segment with that index begins; 0 where there is none
abbrev pub start_of : Segment → Span → ℕ
start_of (Number n) g = 0
start_of Text g = g.start

unfoldable pub segment_start : List ℕ → ℕ → ℕ
segment_start s i =
    let l = (version_of s).version.local in
    start_of (segment_of (segment_bytes s l i)) (span_at l i)
