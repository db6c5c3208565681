-- `list_clauses::operator::find_operator` meets its contract: one law for each way out.
-- Assumes nothing.
use Rattle.list_clauses.proofs.Operators.{not_wide, three_equals, is_equal, is_not_equal, is_compatible, is_order}
use borrow.Author.Rules.{rules}
use Rattle.list_clauses.proofs.operator.find_operator.Goals as goal

pub returns-then-byte_at-ne61 : goal.returns-then-byte_at-ne61
returns-then-byte_at-ne61 c = record { is = search not_wide; within = search rules }

pub returns-then-byte_at-eq61 : goal.returns-then-byte_at-eq61
returns-then-byte_at-eq61 c = record { is = search three_equals; within = search rules }

pub returns-then-first-eq61 : goal.returns-then-first-eq61
returns-then-first-eq61 c = record { is = search is_equal; within = search rules }

pub returns-then-first-eq33 : goal.returns-then-first-eq33
returns-then-first-eq33 c = record { is = search is_not_equal; within = search rules }

pub returns-then-first-eq126 : goal.returns-then-first-eq126
returns-then-first-eq126 c = record { is = search is_compatible; within = search rules }

pub returns : goal.returns
returns c = record { is = search is_order; within = search rules }
