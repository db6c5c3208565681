-- `list_fold::numbered_ranges::NumberedRanges::everything` meets its contract.
-- Assumes nothing.
use Rattle.list_fold.proofs.Packed.{settled, everything_there}
use borrow.Author.Rules.{rules}
use Rattle.list_fold.proofs.numbered_ranges.NumberedRanges.everything.Goals as goal

pub push-requires : goal.push-requires
push-requires c = (search rules, search settled)

pub returns : goal.returns
returns c = search everything_there
