-- `version_normal::numbers::put_pre` meets its contract.
-- Assumes nothing.
use borrow.Author.Rules.{rules}
use Rattle.version_normal.proofs.Texts.{pre_none, pre_there}
use Rattle.version_normal.proofs.numbers.put_pre.Goals as goal

pub returns-in_default : goal.returns-in_default
returns-in_default c = record { wrote = search pre_none; near = search rules }

pub returns : goal.returns
returns c = record { wrote = search pre_there; near = search rules }
