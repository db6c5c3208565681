-- `version_normal::numbers::put_part` meets its contract.
-- Assumes nothing.
use borrow.Author.Rules.{rules}
use Rattle.version_normal.proofs.Texts.{part_none, part_there}
use Rattle.version_normal.proofs.numbers.put_part.Goals as goal

pub returns-in_default : goal.returns-in_default
returns-in_default c = record { wrote = search part_none; near = search rules }

pub returns : goal.returns
returns c = record { wrote = search part_there; near = search rules }
