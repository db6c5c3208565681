-- The verdict of a reader of lumps on a plain version.
-- Assumes nothing.
use Rattle.std.specs.Prelude.{Option, Some}
use mathlib.Core.Path.{◌≡◌, ap}
use mathlib.Core.Bool.{false}
use mathlib.Core.List.{List, []}
use Prim.Native.Nat.{ℕ}
use Rattle.version_reading.specs.declared.plain.Plain.{Plain}
use Rattle.version_reading.specs.declared.text.Verdict.TheVariants.{Accepted}
use Rattle.version_reading.specs.Reading.{version_of}
use Rattle.version_reading.specs.Plain.{plain_of, whole_version}
use Rattle.version_reading.proofs.PlainRead.{plain_said}
use Rattle.fragment_rules.specs.Reader.{given, said_by}
use Rattle.fragment_rules.specs.Lent.{reader_in, text_in}
use Rattle.fragment_rules.proofs.Lending.{accepted_said}
use Rattle.boundary_fields.specs.Fields.{fields_of, fields_said}
use Rattle.boundary_fields.proofs.Plains.{plain_version}
use Rattle.boundary_answers.specs.declared.said.Said.{Said}
use Rattle.boundary_answers.specs.Said.{of_verdict, of_says}
use Rattle.boundary_answers.proofs.Plains.{told_version}

-- the bytes s of a reader, and the text t that they show
module _ (s t : List ℕ) (shown : t ≡ text_in s) (r : Option Plain) (v : Plain) (e : r ≡ plain_of t) (f : r ≡ Some v) where
  reads : (version_of t).verdict ≡ Accepted
  unfolding version_of
  reads = ap (λ p. p.verdict) (plain_said false t r v e f)

  says : said_by (reader_in s) ≡ given (version_of t)
  says = rw shown (accepted_said s (rw (← shown) reads))

  pub quick_told : (x : Said) → x ≡ of_verdict Accepted false → x ≡ of_says (said_by (reader_in s)).says
  quick_told x g = rw says (told_version t r v e f x g)

  pub quick_fields : (old new : List ℕ) → new ≡ fields_of [] (whole_version v) →
      new ≡ fields_said (said_by (reader_in s)).says (text_in s) (said_by (reader_in s)).version old
  quick_fields old new g = rw (says, ← shown) (plain_version t r v e f old new g)
