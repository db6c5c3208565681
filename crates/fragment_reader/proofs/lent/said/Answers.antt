-- `fragment_reader::lent::said` meets its contract: what is said of the reader that the bytes are.
-- Assumes nothing.
use borrow.Author.Rules.{rules}
use Rattle.fragment_reader.proofs.Lending.{lent_said}
use Rattle.fragment_reader.proofs.lent.said.Goals as goal

pub returns : goal.returns
returns c = search lent_said
