-- `list_ends::clause_ends::last_equal` meets its contract: one law for each way out.
-- Assumes nothing.
use Rattle.list_ends.proofs.Given.{ends_match, ends_at}
use Rattle.list_ends.proofs.clause_ends.last_equal.Goals as goal

pub returns-then-wildcard : goal.returns-then-wildcard
returns-then-wildcard c = search ends_match

pub returns : goal.returns
returns c = search ends_at
