-- What is known of each clause of a list that is accepted.
use Rattle.std.specs.Prelude.{◌≡◌, [], ◌≤◌, length}
use Rattle.version_roundtrip.specs.Readable.{Readable}
use Rattle.list_clauses.specs.declared.operator.Operator.TheVariants.{Compatible}
use Rattle.list_clauses.specs.declared.clause.Clause.{Clause}
use Rattle.list_accepting.specs.Accept.{clause_value}

-- a version that can be written, without a label; after `~=` it has two release numbers
pub record Sound (c : Clause) : Type 0 where
  pub local : c.version.local.len ≡ 0
  pub some : 1 ≤ c.version.release.len
  pub few : c.version.release.len ≤ 16
  pub size : length c.version.release.numbers ≡ 16
  pub readable : Readable (clause_value c)
  pub unlabelled : (clause_value c).label ≡ []
  pub two : c.operator ≡ Compatible → 2 ≤ c.version.release.len
