-- `table_lookup::end::at_most` meets its contract: it compares as places of rows do.
-- Assumes nothing.
use Rattle.table_lookup.proofs.Compared.{levels_decide, no_versions, row_below, row_above, by_side}
use Rattle.table_lookup.proofs.end.at_most.Goals as goal

pub returns-then-low-high : goal.returns-then-low-high
returns-then-low-high c = search levels_decide

pub returns-then-low-ne1 : goal.returns-then-low-ne1
returns-then-low-ne1 c = search no_versions

pub returns-in-Less : goal.returns-in-Less
returns-in-Less c = search row_below

pub returns-in-Equal : goal.returns-in-Equal
returns-in-Equal c = search by_side

pub returns-in-Greater : goal.returns-in-Greater
returns-in-Greater c = search row_above
