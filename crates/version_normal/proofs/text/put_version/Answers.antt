-- `version_normal::text::put_version` meets its contract: two writers in a row.
-- Assumes nothing.
use borrow.Author.Rules.{rules}
use Rattle.decimal.proofs.Puts.{then}
use Rattle.version_normal.specs.Normal.{version_text}
use Rattle.version_normal.proofs.text.put_version.Goals as goal

pub returns : goal.returns
unfolding version_text
returns c = record { wrote = search (rules, then); near = search rules }
