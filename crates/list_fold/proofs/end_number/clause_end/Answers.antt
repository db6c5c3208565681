-- One clause passed, and the two ends of the next.
use Rattle.std.proofs.Common.{rules}
use Rattle.list_fold.proofs.EndNumbers.{end_onward, refused_first, refused_second, end_first, end_second}
use Rattle.list_fold.proofs.end_number.clause_end.Goals as goal

pub loop-passed-preserved : goal.loop-passed-preserved
loop-passed-preserved c = search (end_onward, rules)

pub returns-then-number-eq0 : goal.returns-then-number-eq0
returns-then-number-eq0 c = search (end_first, rules)

pub returns-else-number-eq0 : goal.returns-else-number-eq0
returns-else-number-eq0 c = search (end_second, rules)

pub returns-then-number-eq0-2 : goal.returns-then-number-eq0-2
returns-then-number-eq0-2 c = search (refused_first, rules)

pub returns-else-number-eq0-2 : goal.returns-else-number-eq0-2
returns-else-number-eq0-2 c = search (refused_second, rules)
