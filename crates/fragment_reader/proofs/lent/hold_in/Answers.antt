-- `fragment_reader::lent::hold_in` meets its contract: the part before the count is what is written to.
-- Assumes nothing.
use lib.Seq.{length-take-le}
use borrow.Author.Rules.{rules}
use Rattle.fragment_reader.proofs.Bytes.{lump_put}
use Rattle.fragment_reader.proofs.lent.hold_in.Goals as goal

pub slice_bounds-hold-end-2 : goal.slice_bounds-hold-end-2
slice_bounds-hold-end-2 c = search (length-take-le, rules)

pub returns : goal.returns
returns c = search (lump_put, rules)
