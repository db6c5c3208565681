-- `fragment_reader::lent::text` meets its contract: no byte before the verdict.
-- Assumes nothing.
use borrow.Author.Rules.{rules}
use Rattle.fragment_reader.proofs.Lending.{text_over, text_ended, text_unended}
use Rattle.fragment_reader.proofs.lent.text.Goals as goal

pub returns-then-count-gt-LONGEST : goal.returns-then-count-gt-LONGEST
returns-then-count-gt-LONGEST c = search text_over

pub returns-then-ended_in : goal.returns-then-ended_in
returns-then-ended_in c = search text_ended

pub returns : goal.returns
returns c = search text_unended
