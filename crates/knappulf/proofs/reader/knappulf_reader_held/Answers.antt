-- `knappulf::reader::knappulf_reader_held` meets its contract: the length of the text that is shown.
-- Assumes nothing.
use borrow.Author.Rules.{rules}
use Rattle.knappulf.proofs.reader.knappulf_reader_held.Goals as goal

pub returns : goal.returns
returns c = cc
