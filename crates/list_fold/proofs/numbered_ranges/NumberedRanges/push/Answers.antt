-- `list_fold::numbered_ranges::NumberedRanges::push` meets its contract.
-- Assumes nothing.
use Rattle.list_fold.proofs.Packed.{pushes}
use Rattle.list_fold.proofs.numbered_ranges.NumberedRanges.push.Goals as goal

pub returns : goal.returns
returns c = search pushes
