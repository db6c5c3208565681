-- A clause that is refused, and one that was read.
use Rattle.std.proofs.Common.{rules}
use Rattle.list_accepting.proofs.PlainClauses.{version_refused, version_judged}
use Rattle.list_accepting.proofs.plain_accept.judge_version.Goals as goal

pub returns-in_err-clause : goal.returns-in_err-clause
returns-in_err-clause c = search (version_refused, rules, c.in_err-clause.was)

pub returns : goal.returns
returns c = search (version_judged, rules, c.in_ok-clause.was)
