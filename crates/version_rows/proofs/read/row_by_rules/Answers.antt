-- `version_rows::read::row_by_rules` meets its contract.
-- Assumes nothing.
use Rattle.version_rows.proofs.ReadRows.{ruled_row}
use Rattle.version_rows.proofs.read.row_by_rules.Goals as goal

pub returns : goal.returns
returns c = search ruled_row
