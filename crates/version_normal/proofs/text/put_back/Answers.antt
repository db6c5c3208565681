-- `version_normal::text::put_back` meets its contract: three writers in a row.
-- Assumes nothing.
use borrow.Author.Rules.{rules}
use Rattle.decimal.proofs.Puts.{then}
use Rattle.version_normal.specs.Normal.{back_text}
use Rattle.version_normal.proofs.text.put_back.Goals as goal

pub returns : goal.returns
unfolding back_text
returns c = record { wrote = search (rules, then); near = search rules }
