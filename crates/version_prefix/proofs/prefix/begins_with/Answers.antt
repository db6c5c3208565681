-- `version_prefix::prefix::begins_with`: one law for each way.
use Rattle.version_prefix.proofs.Beginnings.{begins_end, begins_not, begins_on}
use Rattle.version_prefix.proofs.prefix.begins_with.Goals as goal

pub returns-then-wanted-number : goal.returns-then-wanted-number
returns-then-wanted-number c = search begins_not

pub loop-i-preserved : goal.loop-i-preserved
loop-i-preserved c = search begins_on

pub returns : goal.returns
returns c = search begins_end
