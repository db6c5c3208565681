-- `list_accepting::plain_accept::accept_plain` meets its contract: one law for each way out.
-- Assumes nothing.
use Rattle.list_accepting.proofs.Verdicts.{accept_long, accept_blank, accept_some}
use Rattle.list_accepting.proofs.plain_accept.accept_plain.Goals as goal

pub returns-then-list-gt1024 : goal.returns-then-list-gt1024
returns-then-list-gt1024 c = search accept_long

pub returns-then-run-list : goal.returns-then-run-list
returns-then-run-list c = search accept_blank

pub returns : goal.returns
returns c = search accept_some
