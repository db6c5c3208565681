-- `version_normal::numbers::put_epoch` meets its contract.
-- Assumes nothing.
use borrow.Author.Rules.{rules}
use Rattle.version_normal.proofs.Texts.{epoch_none, epoch_there}
use Rattle.version_normal.proofs.numbers.put_epoch.Goals as goal

pub returns-then-epoch-eq0 : goal.returns-then-epoch-eq0
returns-then-epoch-eq0 c = record { wrote = search epoch_none; near = search rules }

pub returns : goal.returns
returns c = record { wrote = search epoch_there; near = search rules }
