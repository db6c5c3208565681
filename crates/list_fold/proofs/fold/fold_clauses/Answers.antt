-- One law for each way out, and for one more clause.
use Rattle.std.proofs.Common.{rules}
use Rattle.list_clauses.proofs.Walks.{walk_none, walk_more}
use Rattle.list_fold.proofs.Folds.{folding_none, folding_more, pass_full, pass_refused, pass_last, commas_left}
use Rattle.list_fold.proofs.fold.fold_clauses.Goals as goal

pub loop-count-init : goal.loop-count-init
loop-count-init c = (search rules, search rules, search walk_none, search (folding_none, rules))

pub returns-in_err-clause : goal.returns-in_err-clause
returns-in_err-clause c = search (pass_refused, rules, c.in_err-clause.was)

pub returns-then-read : goal.returns-then-read
returns-then-read c = search (pass_last, rules, c.in_ok-clause.was)

pub loop-count-preserved : goal.loop-count-preserved
loop-count-preserved c = (search rules, search (commas_left, rules), search (walk_more, rules, c.in_ok-clause.was), search (folding_more, rules, c.in_ok-clause.was))

pub returns : goal.returns
returns c = search (pass_full, rules)
