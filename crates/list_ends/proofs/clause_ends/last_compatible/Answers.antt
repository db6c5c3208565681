-- `list_ends::clause_ends::last_compatible` meets its contract.
-- Assumes nothing.
use Rattle.list_ends.proofs.Given.{ends_compatible}
use Rattle.list_ends.proofs.clause_ends.last_compatible.Goals as goal

pub returns : goal.returns
returns c = search ends_compatible
