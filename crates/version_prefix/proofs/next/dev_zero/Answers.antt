-- `version_prefix::next::dev_zero` meets its contract.
-- Assumes nothing.
use Rattle.version_prefix.proofs.next.dev_zero.Goals as goal

pub returns : goal.returns
returns c = cc
