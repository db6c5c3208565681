-- One law for each way out.
use Rattle.std.proofs.Common.{rules}
use Rattle.list_clauses.proofs.Walks.{walk_none, walk_more}
use Rattle.list_clauses.proofs.Lists.{check_full, check_refused, check_last}
use Rattle.list_clauses.proofs.list.check_clauses.Goals as goal

pub loop-count-init : goal.loop-count-init
loop-count-init c = search walk_none

pub returns-in_err-read : goal.returns-in_err-read
returns-in_err-read c = search (check_refused, rules)

pub returns-then-read : goal.returns-then-read
returns-then-read c = search (check_last, rules)

pub loop-count-preserved : goal.loop-count-preserved
loop-count-preserved c = search (walk_more, rules, c.in_ok-read.was)

pub returns : goal.returns
returns c = search (check_full, rules)
