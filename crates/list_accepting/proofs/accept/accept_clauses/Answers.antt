-- One law for each way out, and for one more clause.
use Rattle.std.proofs.Common.{rules}
use Rattle.list_clauses.proofs.Walks.{walk_none, walk_more}
use Rattle.list_accepting.proofs.Verdicts.{accept_none, accept_full, accept_refused, accept_last, accept_more}
use Rattle.list_accepting.proofs.accept.accept_clauses.Goals as goal

pub loop-count-init : goal.loop-count-init
loop-count-init c = (search walk_none, search accept_none)

pub returns-in_err-clause : goal.returns-in_err-clause
returns-in_err-clause c = search (accept_refused, rules)

pub returns-then-read : goal.returns-then-read
returns-then-read c = search (accept_last, rules, c.in_ok-clause.was)

pub loop-count-preserved : goal.loop-count-preserved
loop-count-preserved c = (search (walk_more, rules, c.in_ok-clause.was), search (accept_more, rules, c.in_ok-clause.was))

pub returns : goal.returns
returns c = search (accept_full, rules)
