-- `boundary_fields::fields::put_parts` meets its contract: the numbers stand in the order of `parts`.
-- Assumes nothing.
use borrow.Author.Rules.{rules}
use Rattle.boundary_fields.proofs.fields.put_parts.Goals as goal

pub returns : goal.returns
returns c = cc
