-- `version_reading::plain::whole` meets its contract.
-- Assumes nothing.
use Rattle.version_reading.proofs.plain.whole.Goals as goal

pub returns : goal.returns
returns c = rw c.none-local.ensures.is
