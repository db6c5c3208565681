-- The fields of a text that says a plain version.
-- Assumes nothing.
use Rattle.std.specs.Prelude.{Option, Some}
use mathlib.Core.Path.{◌≡◌, refl, ◌∙◌}
use mathlib.Core.Bool.{Bool, false}
use mathlib.Core.List.{List, [], ◌∷◌, ◌++◌}
use Prim.Native.Nat.{ℕ}
use lib.ListN.{replicate}
use lib.Seq.{sets}
use Rattle.chars.specs.Class.{front}
use Rattle.decimal.specs.Parse.{value_from, number_of}
use Rattle.version_reading.specs.declared.plain.Plain.{Plain}
use Rattle.version_reading.specs.Segment.{segment_of, segment_bytes}
use Rattle.version_reading.specs.Reading.{pattern_as, version_of}
use Rattle.version_reading.specs.Plain.{plain_of, whole_version}
use Rattle.version_reading.proofs.PlainRead.{plain_said}
use Rattle.boundary_fields.specs.Fields.{span_at, parts, segment_row, segment_rows, fields_of, fields_by}

-- the numbers that are there, over zeros
pub plain_filled : (v : Plain) (new : List ℕ) → new ≡ sets (replicate 89 0) 0 (parts (whole_version v) ++ (v.first ∷ v.second ∷ v.third ∷ v.fourth ∷ [])) → new ≡ fields_of [] (whole_version v)
unfolding fields_of segment_rows segment_row span_at segment_bytes segment_of number_of value_from front
plain_filled v new e = e

-- without a label the text does not matter
text_apart : (s : List ℕ) (v : Plain) → fields_of [] (whole_version v) ≡ fields_of s (whole_version v)
unfolding fields_of segment_rows segment_row span_at segment_bytes segment_of number_of value_from front
text_apart s v = refl

module _ (s : List ℕ) (r : Option Plain) (v : Plain) (e : r ≡ plain_of s) (f : r ≡ Some v) where
  pub plain_pattern : (wildcards : Bool) (old new : List ℕ) → new ≡ fields_of [] (whole_version v) → new ≡ fields_by (pattern_as wildcards s).verdict s (pattern_as wildcards s).version old
  plain_pattern wildcards old new g = rw (plain_said wildcards s r v e f) (g ∙ text_apart s v)

  pub plain_version : (old new : List ℕ) → new ≡ fields_of [] (whole_version v) → new ≡ fields_by (version_of s).verdict s (version_of s).version old
  unfolding version_of
  plain_version old new g = rw (plain_said false s r v e f) (g ∙ text_apart s v)
