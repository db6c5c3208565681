-- `version_rows::row::put_four` meets its contract: the numbers stand in their order.
-- Assumes nothing.
use Rattle.version_rows.proofs.Filled.{four_put}
use Rattle.version_rows.proofs.row.put_four.Goals as goal

pub returns : goal.returns
returns c = search four_put
