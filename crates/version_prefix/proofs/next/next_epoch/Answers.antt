-- `version_prefix::next::next_epoch` meets its contract.
-- Assumes nothing.
use Rattle.version_prefix.proofs.Nexts.{epoch_largest, epoch_raised}
use Rattle.version_prefix.proofs.next.next_epoch.Goals as goal

pub returns-then-epoch-eq-LARGEST : goal.returns-then-epoch-eq-LARGEST
returns-then-epoch-eq-LARGEST c = search epoch_largest

pub returns : goal.returns
returns c = search epoch_raised
