-- `list_fold::fold::fold` meets its contract: one law for each way out.
-- Assumes nothing.
use Rattle.list_fold.proofs.Folds.{fold_long, fold_blank, fold_some}
use Rattle.list_fold.proofs.fold.fold.Goals as goal

pub returns-then-list-gt1024 : goal.returns-then-list-gt1024
returns-then-list-gt1024 c = search fold_long

pub returns-then-run-list : goal.returns-then-run-list
returns-then-run-list c = search fold_blank

pub returns-then-count_commas-le3 : goal.returns-then-count_commas-le3
returns-then-count_commas-le3 c = search fold_some

pub returns : goal.returns
returns c = search fold_some
