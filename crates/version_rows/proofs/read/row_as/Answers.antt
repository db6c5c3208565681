-- `version_rows::read::row_as` meets its contract: by whether the quick way finds it.
-- Assumes nothing.
use Rattle.version_rows.proofs.ReadRows.{plain_row}
use Rattle.version_rows.proofs.read.row_as.Goals as goal

pub returns-in-Some : goal.returns-in-Some
returns-in-Some c = search plain_row
