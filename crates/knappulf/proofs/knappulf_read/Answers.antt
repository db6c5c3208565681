-- `knappulf::knappulf_read` meets its contract: the verdict is told, and decides on the fields.
-- Assumes nothing.
use borrow.Author.Rules.{rules}
use Rattle.version_reading.specs.Reading.{version_of}
use Rattle.boundary_answers.proofs.Tells.{told_as}
use Rattle.knappulf.proofs.knappulf_read.Goals as goal

pub returns : goal.returns
unfolding version_of
returns c = record { told = told_as c.tell.ensures cc; fields_after = cc }
