-- `fragment_reader::lent::ended_in` meets its contract: any byte but 0 is the mark.
-- Assumes nothing.
use borrow.Author.Rules.{rules}
use Rattle.fragment_reader.proofs.Bytes.{mark_there}
use Rattle.fragment_reader.proofs.lent.ended_in.Goals as goal

pub returns : goal.returns
returns c = search mark_there
