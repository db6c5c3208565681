-- `list_clauses::list::check` meets its contract: one law for each way out.
-- Assumes nothing.
use Rattle.list_clauses.proofs.Lists.{check_long, check_blank, check_some}
use Rattle.list_clauses.proofs.list.check.Goals as goal

pub returns-then-list-gt1024 : goal.returns-then-list-gt1024
returns-then-list-gt1024 c = search check_long

pub returns-then-run-list : goal.returns-then-run-list
returns-then-run-list c = search check_blank

pub returns : goal.returns
returns c = search check_some
