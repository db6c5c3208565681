-- `list_ends::end::End::topmost` meets its contract.
-- Assumes nothing.
use Rattle.list_ends.proofs.end.End.topmost.Goals as goal

pub returns : goal.returns
returns c = cc
