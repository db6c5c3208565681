-- `knappulf::knappulf_compile` meets its contract: the answer is told.
-- Assumes nothing.
use borrow.Author.Rules.{rules}
use Rattle.boundary_answers.proofs.Tells.{told_as}
use Rattle.knappulf.proofs.knappulf_compile.Goals as goal

pub returns : goal.returns
returns c = record { told = told_as c.tell.ensures cc; buffer_after = search rules }
