-- `version_compare::plain::compare_four` meets its contract.
-- Assumes nothing.
use Rattle.version_compare.proofs.Plains.{four_is}
use Rattle.version_compare.proofs.plain.compare_four.Goals as goal

pub returns : goal.returns
returns c = search four_is
