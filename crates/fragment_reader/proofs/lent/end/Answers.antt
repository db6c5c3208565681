-- `fragment_reader::lent::end` meets its contract: the mark is put after what is held.
-- Assumes nothing.
use borrow.Author.Rules.{rules}
use Rattle.fragment_reader.proofs.Bytes.{count_near}
use Rattle.fragment_reader.proofs.Lending.{lent_marked}
use Rattle.fragment_reader.proofs.lent.end.Goals as goal

pub put_mark-requires : goal.put_mark-requires
put_mark-requires c = search count_near

pub returns : goal.returns
returns c = search lent_marked
