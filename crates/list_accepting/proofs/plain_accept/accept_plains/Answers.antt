-- One law for each way out, and for one more clause.
use Rattle.std.proofs.Common.{rules}
use Rattle.list_clauses.proofs.Walks.{walk_none}
use Rattle.list_accepting.proofs.Verdicts.{accept_none, accept_full}
use Rattle.list_accepting.proofs.PlainClauses.{plains_refused, plains_last, plains_more, plains_walk}
use Rattle.list_accepting.proofs.plain_accept.accept_plains.Goals as goal

pub loop-count-init : goal.loop-count-init
loop-count-init c = (search walk_none, search accept_none)

pub returns-in_err-so_far : goal.returns-in_err-so_far
returns-in_err-so_far c = search (plains_refused, rules)

pub returns-then-here : goal.returns-then-here
returns-then-here c = search (plains_last, rules, c.in_ok-so_far.was)

pub loop-count-preserved : goal.loop-count-preserved
loop-count-preserved c = (search (plains_walk, rules, c.in_ok-so_far.was), search (plains_more, rules, c.in_ok-so_far.was))

pub returns : goal.returns
returns c = search (accept_full, rules)
