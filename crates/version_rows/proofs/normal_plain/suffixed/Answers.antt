-- `version_rows::normal_plain::suffixed` meets its contract: one law for each way out.
-- Assumes nothing.
use Rattle.version_rows.proofs.NormalPlains.{plain_suffix}
use Rattle.version_rows.proofs.normal_plain.suffixed.Goals as goal

pub returns : goal.returns
returns c = search plain_suffix
