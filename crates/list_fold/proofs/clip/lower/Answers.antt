-- `list_fold::clip::lower` meets its contract.
-- Assumes nothing.
use Rattle.list_fold.proofs.Tests.{old_stays, new_comes}
use Rattle.list_fold.proofs.clip.lower.Goals as goal

pub returns-then-at_most : goal.returns-then-at_most
returns-then-at_most c = search old_stays

pub returns-else-at_most : goal.returns-else-at_most
returns-else-at_most c = search new_comes
