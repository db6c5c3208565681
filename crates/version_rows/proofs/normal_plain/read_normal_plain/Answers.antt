-- `version_rows::normal_plain::read_normal_plain` meets its contract: one law for each way out.
-- Assumes nothing.
use Rattle.version_rows.proofs.NormalPlains.{plain_release}
use Rattle.version_rows.proofs.normal_plain.read_normal_plain.Goals as goal

pub returns-then-head-s : goal.returns-then-head-s
returns-then-head-s c = search plain_release
