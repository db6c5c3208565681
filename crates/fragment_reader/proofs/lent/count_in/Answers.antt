-- `fragment_reader::lent::count_in` meets its contract: two bytes, the lower first, capped.
-- Assumes nothing.
use borrow.Author.Rules.{rules}
use Rattle.fragment_reader.proofs.Bytes.{count_over, count_within}
use Rattle.fragment_reader.proofs.lent.count_in.Goals as goal

pub returns-then-came-gt-LONGEST : goal.returns-then-came-gt-LONGEST
returns-then-came-gt-LONGEST c = search count_over

pub returns : goal.returns
returns c = search count_within
