-- The ways of the functions that read a text into a row, and what is known of such a row.
-- Assumes nothing.
use mathlib.Core.Path.{◌≡◌, refl, sym, ◌∙◌, ap}
use mathlib.Core.Bool.{Bool, false}
use mathlib.Core.List.{List, []}
use Prim.Native.Nat.{ℕ, ◌≤◌}
use native.Mathlib.Omega.{arith}
use lib.ListN.{length}
use Rattle.answers.specs.declared.Refusal.{Refusal}
use Rattle.std.specs.Prelude.{Option, Some}
use Rattle.version_reading.specs.declared.plain.Plain.{Plain}
use Rattle.version_reading.specs.declared.text.Verdict.{Verdict}
use Rattle.version_reading.specs.declared.text.Verdict.TheVariants.{Accepted, Refused}
use Rattle.version_reading.specs.declared.text.PatternReading.{PatternReading}
use Rattle.version_reading.specs.Plain.{plain_of, PlainRead, whole_version}
use Rattle.version_reading.specs.Reading.{pattern_as, pattern_of, version_of, Read}
use Rattle.version_reading.specs.Value.{Value, value_of, value_in}
use Rattle.version_reading.proofs.PlainRead.{plain_said, said_filled}
use Rattle.version_reading.proofs.Values.{release_count}
use Rattle.version_roundtrip.proofs.Read.{pattern_shape, release_shape}
use Rattle.version_rows.specs.declared.read.PatternRow.{PatternRow}
use Rattle.version_rows.specs.Row.{RowOf}
use Rattle.version_rows.specs.Read.{row_by, RowRead, pattern_row, PatternRowRead}
use Rattle.version_rows.proofs.Labels.{row_blind}

-- the ways of `put_accepted`
pub accepted_put : (v : Value) (old new : List ℕ) (x : Verdict) → x ≡ Accepted → RowOf v new → new ≡ row_by x v old
accepted_put v old new x e row = rw e row.is

pub refused_kept : (v : Value) (old : List ℕ) (x : Verdict) (refusal : Refusal) → x ≡ Refused refusal → old ≡ row_by x v old
refused_kept v old x refusal e = rw e

-- by the rules
pub ruled_row : (wildcards : Bool) (s old new : List ℕ) (read : PatternReading) → Read (pattern_as wildcards s) read
    → new ≡ row_by read.verdict (value_of [] read.version) old → PatternRowRead (pattern_as wildcards s) old new (pattern_row read)
ruled_row wildcards s old new read p e = record { is = ap pattern_row p.is; leaves = rw p.is at e; few = p.few; near = p.near }

-- by the quick way
module _ (wildcards : Bool) (s old new : List ℕ) (read : Option Plain) (v : Plain) (p : PlainRead (plain_of s) read) (found : read ≡ Some v)
    (row : RowOf (value_of [] (whole_version v)) new) where
  pub plain_row : PatternRowRead (pattern_as wildcards s) old new (record { verdict = Accepted; wildcard = false; count = v.count; labelled = false })
  plain_row = record {
    is = rw (plain_said wildcards s read v p.is found);
    leaves = rw (plain_said wildcards s read v p.is found) row.is;
    few = omega (arith, (said_filled p found).few);
    near = omega arith;
  }

-- as a version
pub version_row : (s old new : List ℕ) (r : PatternRow) → PatternRowRead (pattern_as false s) old new r → RowRead s old new r.verdict
unfolding version_of
version_row s old new r p = record {
  is = ap (λ q. q.verdict) p.is;
  leaves = p.leaves ∙ same (pattern_as false s).verdict;
  near = p.near;
}
  where
    same : (x : Verdict) → row_by x (value_of [] (pattern_as false s).version) old ≡ row_by x (value_of s (pattern_as false s).version) old
    same Accepted = row_blind [] s (pattern_as false s).version
    same (Refused x) = refl

-- how many release numbers a text says
pub pattern_count : (s t : List ℕ) → length (value_of t (pattern_of s).version).release ≡ (pattern_of s).version.release.len
pattern_count s t = release_count t (pattern_of s).version (pattern_shape s).0 (pattern_shape s).1

-- there is room for them in a row
pub pattern_few : (s t : List ℕ) → length (value_of t (pattern_of s).version).release ≤ 16
pattern_few s t = omega (arith, pattern_count s t, (pattern_shape s).0)

pub version_few : (s t : List ℕ) → length (value_of t (version_of s).version).release ≤ 16
version_few s t = omega (arith, release_count t (version_of s).version (release_shape s).0 (release_shape s).1, (release_shape s).0)

-- the row of a text that was accepted
pub accepted_row : (s old new : List ℕ) (r : Verdict) → RowRead s old new r → r ≡ Accepted → RowOf (value_in s) new
accepted_row s old new r p e =
    let accepted : (version_of s).verdict ≡ Accepted = sym p.is ∙ e in
    record { is = rw accepted at p.leaves; few = version_few s s }

pub accepted_pattern_row : (s old new : List ℕ) (r : PatternRow) → PatternRowRead (pattern_of s) old new r → r.verdict ≡ Accepted
    → RowOf (value_of [] (pattern_of s).version) new
accepted_pattern_row s old new r p e =
    let accepted : (pattern_of s).verdict ≡ Accepted = sym (ap (λ q. q.verdict) p.is) ∙ e in
    record { is = rw accepted at p.leaves; few = pattern_few s [] }
