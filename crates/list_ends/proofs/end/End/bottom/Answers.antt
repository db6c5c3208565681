-- `list_ends::end::End::bottom` meets its contract.
-- Assumes nothing.
use Rattle.list_ends.proofs.end.End.bottom.Goals as goal

pub returns : goal.returns
returns c = cc
