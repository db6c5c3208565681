-- `knappulf::knappulf_pattern` meets its contract: the verdict is told, and decides on the fields.
-- Assumes nothing.
use borrow.Author.Rules.{rules}
use Rattle.boundary_answers.proofs.Tells.{told_as}
use Rattle.knappulf.proofs.knappulf_pattern.Goals as goal

pub returns : goal.returns
returns c = record { told = told_as c.tell.ensures cc; fields_after = cc }
