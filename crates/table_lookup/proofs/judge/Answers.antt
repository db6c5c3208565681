-- By the verdict.
use Rattle.std.proofs.Common.{rules}
use Rattle.table_lookup.proofs.Lookups.{judge_accepted, judge_refused}
use Rattle.table_lookup.proofs.judge.Goals as goal

pub returns-in-Accepted : goal.returns-in-Accepted
returns-in-Accepted c = search (judge_accepted, rules)

pub returns-in-Refused : goal.returns-in-Refused
returns-in-Refused c = search (judge_refused, rules)
