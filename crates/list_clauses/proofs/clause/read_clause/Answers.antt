-- `list_clauses::clause::read_clause` meets its contract: one law for each way out.
-- Assumes nothing.
use Rattle.list_clauses.proofs.Clauses.{clause_empty, clause_missing, clause_read, operator_ends, operator_place, pattern_room}
use borrow.Author.Rules.{rules}
use Rattle.list_clauses.proofs.clause.read_clause.Goals as goal

pub returns-then-bytes-eq0 : goal.returns-then-bytes-eq0
returns-then-bytes-eq0 c = record { is = search clause_empty; few = search rules }

pub returns-in_default : goal.returns-in_default
returns-in_default c = record { is = search clause_missing; few = search rules }

pub slice_bounds-read_pattern-count : goal.slice_bounds-read_pattern-count
slice_bounds-read_pattern-count c = search operator_ends

pub slice_bounds-read_pattern-start : goal.slice_bounds-read_pattern-start
slice_bounds-read_pattern-start c = search operator_ends

pub overflow_add-from : goal.overflow_add-from
overflow_add-from c = search operator_place

pub read_pattern-requires : goal.read_pattern-requires
read_pattern-requires c = search pattern_room

pub returns : goal.returns
returns c = record { is = search clause_read; few = search rules }
