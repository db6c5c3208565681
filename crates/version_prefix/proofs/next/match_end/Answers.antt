-- `version_prefix::next::match_end`: one law for each way.
use Rattle.version_prefix.proofs.Nexts.{match_none, match_raised, match_dropped}
use Rattle.version_prefix.proofs.next.match_end.Goals as goal

pub returns-then-number : goal.returns-then-number
returns-then-number c = search match_raised

pub loop-last-preserved : goal.loop-last-preserved
loop-last-preserved c = search match_dropped

pub returns : goal.returns
returns c = search match_none
