-- `version_rows::normal::normal_row` meets its contract: one law for each way out.
-- Assumes nothing.
use Rattle.version_rows.proofs.NormalTexts.{plain_normal, none_normal, row_normal}
use Rattle.version_rows.proofs.normal.normal_row.Goals as goal

pub returns-in-Some : goal.returns-in-Some
returns-in-Some c = search (plain_normal, c.in-Some.ensures)

pub returns-in-Ok : goal.returns-in-Ok
returns-in-Ok c = search (row_normal, c.in-Ok.ensures)

pub returns-in-Err : goal.returns-in-Err
returns-in-Err c = search (none_normal, c.in-Err.ensures)
