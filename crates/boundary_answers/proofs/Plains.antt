-- What is told of a text that says a plain version.
-- Assumes nothing.
use Rattle.std.specs.Prelude.{Option, Some}
use mathlib.Core.Path.{◌≡◌}
use mathlib.Core.Bool.{Bool, true, false}
use mathlib.Core.List.{List}
use Prim.Native.Nat.{ℕ}
use Rattle.version_reading.specs.declared.plain.Plain.{Plain}
use Rattle.version_reading.specs.declared.text.Verdict.TheVariants.{Accepted}
use Rattle.version_reading.specs.Reading.{pattern_as, version_of}
use Rattle.version_reading.specs.Plain.{plain_of}
use Rattle.version_reading.proofs.PlainRead.{plain_said}
use Rattle.boundary_answers.specs.declared.said.Said.{Said}
use Rattle.boundary_answers.specs.Said.{of_verdict}

module _ (s : List ℕ) (r : Option Plain) (v : Plain) (e : r ≡ plain_of s) (f : r ≡ Some v) where
  pub plain_verdict : (wildcards : Bool) → Accepted ≡ (pattern_as wildcards s).verdict
  plain_verdict wildcards = rw (plain_said wildcards s r v e f)

  pub plain_wildcard : (wildcards : Bool) → false ≡ (pattern_as wildcards s).wildcard
  plain_wildcard wildcards = rw (plain_said wildcards s r v e f)

  pub told_pattern : (x : Said) → x ≡ of_verdict Accepted false → x ≡ of_verdict (pattern_as true s).verdict (pattern_as true s).wildcard
  told_pattern x g = rw (plain_said true s r v e f) g

  pub told_version : (x : Said) → x ≡ of_verdict Accepted false → x ≡ of_verdict (version_of s).verdict false
  unfolding version_of
  told_version x g = rw (plain_said false s r v e f) g
