-- `boundary_fields::fields::put_segment` meets its contract: the numbers stand in the order of `row`.
-- Assumes nothing.
use borrow.Author.Rules.{rules}
use Rattle.boundary_fields.proofs.Rows.{row_is, row_missing}
use Rattle.boundary_fields.proofs.fields.put_segment.Goals as goal

pub returns-then-local-index : goal.returns-then-local-index
returns-then-local-index c = search row_missing

pub returns : goal.returns
returns c = search row_is
