-- `table_lookup::end::held_between` meets its contract.
-- Assumes nothing.
use Rattle.table_lookup.proofs.Compared.{held_here, held_not}
use Rattle.table_lookup.proofs.end.held_between.Goals as goal

pub returns-then-at_most : goal.returns-then-at_most
returns-then-at_most c = search held_here

pub returns : goal.returns
returns c = search held_not
