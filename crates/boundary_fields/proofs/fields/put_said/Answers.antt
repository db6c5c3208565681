-- `boundary_fields::fields::put_said` meets its contract: by whether there is a verdict.
-- Assumes nothing.
use borrow.Author.Rules.{rules}
use Rattle.boundary_fields.proofs.Rows.{said_given, said_nothing}
use Rattle.boundary_fields.proofs.fields.put_said.Goals as goal

pub returns-in-Some : goal.returns-in-Some
returns-in-Some c = search said_given

pub returns-in_default : goal.returns-in_default
returns-in_default c = search said_nothing
