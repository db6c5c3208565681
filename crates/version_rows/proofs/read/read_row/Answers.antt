-- `version_rows::read::read_row` meets its contract.
-- Assumes nothing.
use Rattle.version_rows.proofs.ReadRows.{version_row}
use Rattle.version_rows.proofs.read.read_row.Goals as goal

pub returns : goal.returns
returns c = search version_row
