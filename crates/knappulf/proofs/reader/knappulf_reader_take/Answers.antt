-- `knappulf::reader::knappulf_reader_take` meets its contract: whether there is a verdict, as a number.
-- Assumes nothing.
use borrow.Author.Rules.{rules}
use Rattle.knappulf.proofs.reader.knappulf_reader_take.Goals as goal

pub returns : goal.returns
returns c = record { value = cc; reader_after = cc }
