-- One law for each way out.
use Rattle.std.proofs.Common.{rules}
use Rattle.list_clauses.proofs.Clauses.{pattern_refused, pattern_judged}
use Rattle.list_clauses.proofs.clause.read_pattern.Goals as goal

pub returns-in-Refused : goal.returns-in-Refused
returns-in-Refused c = record { is = search pattern_refused; few = search rules }

pub returns-in-Accepted : goal.returns-in-Accepted
returns-in-Accepted c = record { is = search pattern_judged; few = search rules }
