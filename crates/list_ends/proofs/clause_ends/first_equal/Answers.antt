-- `list_ends::clause_ends::first_equal` meets its contract: one law for each way out.
-- Assumes nothing.
use Rattle.list_ends.proofs.Given.{starts_match, starts_at}
use Rattle.list_ends.proofs.clause_ends.first_equal.Goals as goal

pub returns-then-wildcard : goal.returns-then-wildcard
returns-then-wildcard c = search starts_match

pub returns : goal.returns
returns c = search starts_at
