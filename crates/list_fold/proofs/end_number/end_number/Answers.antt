-- `list_fold::end_number::end_number` meets its contract, number by number.
-- Assumes nothing.
use Rattle.list_fold.proofs.EndNumbers.{number_bottom, number_topmost, number_clause}
use Rattle.list_fold.proofs.end_number.end_number.Goals as goal

pub returns-then-number-eq0 : goal.returns-then-number-eq0
returns-then-number-eq0 c = search number_bottom

pub returns-then-number-eq1 : goal.returns-then-number-eq1
returns-then-number-eq1 c = search number_topmost

pub returns : goal.returns
returns c = search number_clause
