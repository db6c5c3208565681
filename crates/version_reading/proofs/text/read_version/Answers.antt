-- `version_reading::text::read_version` meets its contract.
-- Assumes nothing.
use Rattle.version_reading.proofs.Wholes.{version_read}
use Rattle.version_reading.proofs.text.read_version.Goals as goal

pub returns : goal.returns
returns c = search version_read
