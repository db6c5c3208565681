-- `fragment_reader::reader::take` meets its contract: after the end mark nothing is taken, and before it the lump is held.
-- Assumes nothing.
use borrow.Author.Rules.{rules}
use Rattle.fragment_reader.proofs.Takes.{kept_behind, taken_before}
use Rattle.fragment_reader.proofs.reader.take.Goals as goal

pub returns-then-reader : goal.returns-then-reader
returns-then-reader c = search kept_behind

pub returns : goal.returns
returns c = search taken_before
