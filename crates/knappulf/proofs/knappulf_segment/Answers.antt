-- `knappulf::knappulf_segment` meets its contract: one law for each way out.
-- Assumes nothing.
use borrow.Author.Rules.{rules}
use Rattle.knappulf.proofs.Segments.{no_length, no_start, its_length, its_start}
use Rattle.knappulf.proofs.knappulf_segment.Goals as goal

pub returns-in_default : goal.returns-in_default
returns-in_default c = record { value = search no_length; start_after = search no_start }

pub returns : goal.returns
returns c = record { value = search its_length; start_after = search its_start }
