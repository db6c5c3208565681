-- `list_fold::row::key_row` meets its contract: one law for each side.
-- Assumes nothing.
use Rattle.list_fold.proofs.Filled.{bottom_row, top_row, before_row, after_row}
use Rattle.list_fold.proofs.row.key_row.Goals as goal

pub returns-in-Bottom : goal.returns-in-Bottom
returns-in-Bottom c = search bottom_row

pub returns-in-Top : goal.returns-in-Top
returns-in-Top c = search top_row

pub returns-in-Before : goal.returns-in-Before
returns-in-Before c = search before_row

pub returns-in-After : goal.returns-in-After
returns-in-After c = search after_row
