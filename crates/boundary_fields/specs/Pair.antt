-- Parts of a version as two numbers: which kind it is, and its number.
use Rattle.std.specs.Prelude.{ℕ, Option, None, Some}
use Rattle.chars.specs.declared.spelling.PreKind.{PreKind}
use Rattle.chars.specs.declared.spelling.PreKind.TheVariants.{Alpha, Beta, Rc}
use Rattle.version_reading.specs.declared.segment.Segment.{Segment}
use Rattle.version_reading.specs.declared.segment.Segment.TheVariants.{Number, Text}
use Rattle.boundary_fields.specs.declared.pair.Pair.{Pair}

abbrev pub kind_number : PreKind → ℕ
kind_number Alpha = 1
kind_number Beta = 2
kind_number Rc = 3

-- kind 0: there is none
abbrev pub pre_pair : Option (PreKind × ℕ) → Pair
pre_pair None = record { kind = 0; number = 0 }
pre_pair (Some (kind, n)) = record { kind = kind_number kind; number = n }

abbrev pub part_pair : Option ℕ → Pair
part_pair None = record { kind = 0; number = 0 }
part_pair (Some n) = record { kind = 1; number = n }

-- kind 1: a text
abbrev pub segment_pair : Segment → Pair
segment_pair (Number n) = record { kind = 0; number = n }
segment_pair Text = record { kind = 1; number = 0 }
