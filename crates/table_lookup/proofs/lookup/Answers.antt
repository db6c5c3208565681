-- `table_lookup::lookup` meets its contract: looking the row up is looking the text up.
-- Assumes nothing.
use Rattle.table_lookup.proofs.Lookups.{text_looked}
use Rattle.table_lookup.proofs.lookup.Goals as goal

pub returns : goal.returns
returns c = search text_looked
