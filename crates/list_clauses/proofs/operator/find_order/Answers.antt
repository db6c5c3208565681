-- `list_clauses::operator::find_order` meets its contract: one law for each way out.
-- Assumes nothing.
use Rattle.list_clauses.proofs.Operators.{is_at_most, is_at_least, no_wide_order, is_below, is_above, no_order}
use borrow.Author.Rules.{rules}
use Rattle.list_clauses.proofs.operator.find_order.Goals as goal

pub returns-then-first-eq60 : goal.returns-then-first-eq60
returns-then-first-eq60 c = record { is = search is_at_most; within = search rules }

pub returns-then-first-eq62 : goal.returns-then-first-eq62
returns-then-first-eq62 c = record { is = search is_at_least; within = search rules }

pub returns-then-byte_at-eq61 : goal.returns-then-byte_at-eq61
returns-then-byte_at-eq61 c = record { is = search no_wide_order; within = search rules }

pub returns-then-first-eq60-2 : goal.returns-then-first-eq60-2
returns-then-first-eq60-2 c = record { is = search is_below; within = search rules }

pub returns-then-first-eq62-2 : goal.returns-then-first-eq62-2
returns-then-first-eq62-2 c = record { is = search is_above; within = search rules }

pub returns : goal.returns
returns c = record { is = search no_order; within = search rules }
