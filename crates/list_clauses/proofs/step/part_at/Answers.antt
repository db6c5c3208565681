-- `list_clauses::step::part_at` meets its contract.
-- Assumes nothing.
use Rattle.list_clauses.proofs.Steps.{part_outside, part_last, part_more}
use Rattle.list_clauses.proofs.step.part_at.Goals as goal

pub returns-then-list-start : goal.returns-then-list-start
returns-then-list-start c = search part_outside

pub returns-then-comma-list : goal.returns-then-comma-list
returns-then-comma-list c = search part_last

pub returns : goal.returns
returns c = search part_more
