-- No more than the array has.
use Rattle.std.proofs.Common.{rules}
use Rattle.list_fold.proofs.Packed.{ranges_there}
use Rattle.list_fold.proofs.numbered_ranges.NumberedRanges.ranges.Goals as goal

pub returns-clause-is : goal.returns-clause-is
returns-clause-is c = search (ranges_there, rules)
