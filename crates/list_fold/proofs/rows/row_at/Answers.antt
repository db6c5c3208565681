-- `list_fold::rows::row_at` meets its contract: no row, a part of one, or a row.
-- Assumes nothing.
use Rattle.list_fold.proofs.Tests.{row_past, row_cut, row_there}
use Rattle.list_fold.proofs.rows.row_at.Goals as goal

pub returns-then-rows-start : goal.returns-then-rows-start
returns-then-rows-start c = search row_past

pub returns-then-rows-end : goal.returns-then-rows-end
returns-then-rows-end c = search row_cut

pub returns : goal.returns
returns c = search row_there
