-- `knappulf::reader::knappulf_reader_verdict` meets its contract: what is said decides on the fields, and is told.
-- Assumes nothing.
use borrow.Author.Rules.{rules}
use Rattle.boundary_answers.proofs.Tells.{told_as}
use Rattle.knappulf.proofs.Quick.{quick_told, quick_fields}
use Rattle.knappulf.proofs.reader.knappulf_reader_verdict.Goals as goal

pub returns-in-Some : goal.returns-in-Some
returns-in-Some c = record { told = told_as c.tell.ensures (search quick_told); fields_after = search quick_fields }

pub returns : goal.returns
returns c = record { told = told_as c.tell-2.ensures cc; fields_after = cc }
