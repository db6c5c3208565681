-- `list_ends::clause_ends::match_last` meets its contract: one law for each way out.
-- Assumes nothing.
use Rattle.list_ends.proofs.Given.{has_next, has_no_next}
use Rattle.list_ends.proofs.clause_ends.match_last.Goals as goal

pub returns-in-Some : goal.returns-in-Some
returns-in-Some c = search (has_next, c.in-Some.ensures)

pub returns-in-None : goal.returns-in-None
returns-in-None c = search (has_no_next, c.in-None.ensures)
