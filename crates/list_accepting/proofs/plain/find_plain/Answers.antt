-- `list_accepting::plain::find_plain` meets its contract: one law for each way out.
-- Assumes nothing.
use Rattle.list_clauses.proofs.Clauses.{operator_ends}
use Rattle.list_accepting.proofs.PlainClauses.{clause_found}
use Rattle.list_accepting.proofs.plain.find_plain.Goals as goal

pub slice_bounds-find_pattern-count : goal.slice_bounds-find_pattern-count
slice_bounds-find_pattern-count c = search operator_ends

pub slice_bounds-find_pattern-start : goal.slice_bounds-find_pattern-start
slice_bounds-find_pattern-start c = search operator_ends

pub returns : goal.returns
returns c = search clause_found
