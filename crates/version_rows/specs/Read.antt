-- What a text leaves in a lent row: its version's row where it is accepted, and what was there where it is refused.
use Rattle.std.specs.Prelude.{◌≡◌, not, List, [], ℕ, ◌≤◌, eqb}
use Rattle.version_reading.specs.declared.text.Verdict.{Verdict}
use Rattle.version_reading.specs.declared.text.Verdict.TheVariants.{Accepted, Refused}
use Rattle.version_reading.specs.declared.text.PatternReading.{PatternReading}
use Rattle.version_reading.specs.Reading.{longest, place_of, version_of}
use Rattle.version_reading.specs.Value.{Value, value_of, value_in}
use Rattle.version_rows.specs.declared.read.PatternRow.{PatternRow}
use Rattle.version_rows.specs.Row.{row_of}

abbrev pub row_by : Verdict → Value → List ℕ → List ℕ
row_by Accepted v old = row_of v
row_by (Refused x) v old = old

pub record RowRead (s old new : List ℕ) (r : Verdict) : Type 0 where
  pub is : r ≡ (version_of s).verdict
  pub leaves : new ≡ row_by (version_of s).verdict (value_in s) old
  pub near : place_of r ≤ longest

-- what is said of a pattern beside its row; a refused one has no numbers and no label
abbrev pub pattern_row : PatternReading → PatternRow
pattern_row p = record {
  verdict = p.verdict;
  wildcard = p.wildcard;
  count = p.version.release.len;
  labelled = not (eqb p.version.local.len 0);
}

pub record PatternRowRead (p : PatternReading) (old new : List ℕ) (r : PatternRow) : Type 0 where
  pub is : r ≡ pattern_row p
  pub leaves : new ≡ row_by p.verdict (value_of [] p.version) old
  pub few : r.count ≤ 16
  pub near : place_of r.verdict ≤ longest
