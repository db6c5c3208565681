-- `table_lookup::lookup_row` meets its contract: one law for each way out.
-- Assumes nothing.
use Rattle.table_lookup.proofs.Lookups.{row_refused, row_held}
use Rattle.table_lookup.proofs.lookup_row.Goals as goal

pub returns-in-Err : goal.returns-in-Err
returns-in-Err c = search row_refused

pub returns-in-Ok : goal.returns-in-Ok
returns-in-Ok c = search row_held
