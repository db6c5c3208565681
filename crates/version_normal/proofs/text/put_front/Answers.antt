-- `version_normal::text::put_front` meets its contract: three writers in a row.
-- Assumes nothing.
use borrow.Author.Rules.{rules}
use Rattle.decimal.proofs.Puts.{then}
use Rattle.version_normal.specs.Normal.{front_text}
use Rattle.version_normal.proofs.text.put_front.Goals as goal

pub returns : goal.returns
unfolding front_text
returns c = record { wrote = search (rules, then); near = search rules }
