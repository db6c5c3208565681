-- `list_fold::numbered_ranges::NumberedRanges::none` meets its contract.
-- Assumes nothing.
use Rattle.list_fold.proofs.Packed.{holds_none}
use Rattle.list_fold.proofs.numbered_ranges.NumberedRanges.none.Goals as goal

pub returns : goal.returns
returns c = search holds_none
