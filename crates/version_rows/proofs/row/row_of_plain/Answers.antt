-- `version_rows::row::row_of_plain` meets its contract.
-- Assumes nothing.
use Rattle.version_rows.proofs.Filled.{plain_filled}
use Rattle.version_rows.proofs.row.row_of_plain.Goals as goal

pub returns : goal.returns
returns c = search plain_filled
