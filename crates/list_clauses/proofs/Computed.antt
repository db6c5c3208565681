-- For worked points: where `computed_list` unfolds, all that reading a list computes with does, but for the patterns in it.
-- Assumes nothing.
use mathlib.Core.List.{List}
use Prim.Native.Nat.{ℕ}
use Rattle.chars.specs.Scan.{index_after, index_of}
use Rattle.list_clauses.specs.Operator.{order_of, operator_of}
use Rattle.list_clauses.specs.Trim.{trimmed_length}
use Rattle.list_clauses.specs.Clause.{judged, pattern_clause, clause_of}
use Rattle.list_clauses.specs.Step.{comma_after, part_end, part_start, part_at, clause_in, step_at}
use Rattle.list_clauses.specs.List.{Listing, clauses_from, list_of}

unfoldable pub computed_list : List ℕ → Listing
unfolding index_after index_of order_of operator_of trimmed_length judged pattern_clause clause_of comma_after part_end part_start part_at clause_in step_at
    clauses_from list_of
computed_list s = list_of s
