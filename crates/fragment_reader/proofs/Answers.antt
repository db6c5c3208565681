-- What is said of the first bytes, by the ways of `say`.
-- Assumes nothing.
use Rattle.std.specs.Prelude.{None, Some}
use mathlib.Core.Path.{◌≡◌, ap, ◌∙◌}
use mathlib.Core.Bool.{Bool, true, false}
use mathlib.Core.List.{List}
use Prim.Native.Nat.{ℕ, ◌-◌, ◌≤◌, ◌<◌}
use native.Mathlib.Omega.{arith}
use lib.ListN.{take, drop}
use borrow.Author.Tests.{lt-ltb, le-ltb}
use Rattle.answers.specs.Refusal.{refusal}
use Rattle.version_parts.specs.declared.fields.Version.{Version}
use Rattle.version_parts.specs.Fields.{no_version}
use Rattle.version_reading.specs.declared.text.Verdict.TheVariants.{Refused}
use Rattle.version.specs.declared.reading.Reading.{Reading}
use Rattle.version.specs.Reading.{TextRead}
use Rattle.fragment_rules.specs.Reader.{Said, given, said_by}
use Rattle.fragment_reader.specs.Hold.{reader_by}

pub first_part : (s part : List ℕ) (count : ℕ) → part ≡ take (count - 0) (drop 0 s) → part ≡ take count s
first_part s part count e = let all : count - 0 ≡ count = omega arith in e ∙ ap (λ n. take n s) all

module _ (s : List ℕ) (count : ℕ) (ended : Bool) where
  pub too_long_said : (v : Version) → 1024 < count → v ≡ no_version →
      Said (said_by (reader_by s count ended)) (record { says = Some (Refused (refusal 8 1024)); version = v })
  unfolding said_by
  too_long_said v h e = record { is = rw (lt-ltb 1024 count h, e); few = rw e (omega arith); short = rw e (omega arith); near = omega arith }

  pub text_said : (part : List ℕ) (r : Reading) → count ≤ 1024 → ended ≡ true → part ≡ take (count - 0) (drop 0 s) →
      TextRead part r → Said (said_by (reader_by s count ended)) (record { says = Some r.verdict; version = r.version })
  unfolding said_by
  text_said part r h e f g = record {
    is = rw (le-ltb 1024 count h, e, ← first_part s part count f) (ap given g.fields.is);
    few = g.fields.few;
    short = g.fields.short;
    near = g.fields.near;
  }

  pub nothing_said : (v : Version) → count ≤ 1024 → ended ≡ false → v ≡ no_version →
      Said (said_by (reader_by s count ended)) (record { says = None; version = v })
  unfolding said_by
  nothing_said v h e f = record {
    is = rw (le-ltb 1024 count h, e, f);
    few = rw f (omega arith);
    short = rw f (omega arith);
    near = omega arith;
  }
