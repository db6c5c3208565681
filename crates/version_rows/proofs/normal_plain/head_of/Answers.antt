-- `version_rows::normal_plain::head_of` meets its contract: one law for each way out.
-- Assumes nothing.
use Rattle.version_rows.proofs.NormalPlains.{head_none, head_one, two_read}
use Rattle.version_rows.proofs.normal_plain.head_of.Goals as goal

pub returns-in_default : goal.returns-in_default
returns-in_default c = search head_none

pub returns-in_default-part : goal.returns-in_default-part
returns-in_default-part c = search head_one

pub after_second-requires : goal.after_second-requires
after_second-requires c = search two_read
