-- `boundary_fields::fields::put_accepted` meets its contract: by the verdict.
-- Assumes nothing.
use borrow.Author.Rules.{rules}
use Rattle.boundary_fields.proofs.Rows.{fields_accepted, fields_refused}
use Rattle.boundary_fields.proofs.fields.put_accepted.Goals as goal

pub returns-in-Accepted : goal.returns-in-Accepted
returns-in-Accepted c = search fields_accepted

pub returns-in_default : goal.returns-in_default
returns-in_default c = search fields_refused
