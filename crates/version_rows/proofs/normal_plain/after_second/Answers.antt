-- `version_rows::normal_plain::after_second` meets its contract: one law for each count.
-- Assumes nothing.
use Rattle.version_rows.proofs.NormalPlains.{head_two, head_three, head_four}
use Rattle.version_rows.proofs.normal_plain.after_second.Goals as goal

pub returns-in_default : goal.returns-in_default
returns-in_default c = search head_two

pub returns-in_default-part : goal.returns-in_default-part
returns-in_default-part c = search head_three

pub returns : goal.returns
returns c = search head_four
