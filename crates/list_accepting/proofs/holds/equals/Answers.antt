-- `list_accepting::holds::equals` meets its contract: one law for each way out.
-- Assumes nothing.
use Rattle.list_accepting.proofs.Holding.{equal_by_match, equal_by_order, named_eq}
use Rattle.list_accepting.proofs.holds.equals.Goals as goal

pub returns-then-wildcard : goal.returns-then-wildcard
returns-then-wildcard c = search equal_by_match

pub returns : goal.returns
returns c = search (equal_by_order, named_eq)
