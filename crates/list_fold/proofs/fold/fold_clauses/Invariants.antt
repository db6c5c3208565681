-- So far `count` clauses were read and folded.
use Rattle.std.proofs.Common.{◌≡◌, ◌+◌, ◌*◌, ◌≤◌, length, drop, min}
use Rattle.list_clauses.specs.Commas.{commas_in}
use Rattle.list_clauses.proofs.Walks.{Walked}
use Rattle.list_fold.proofs.Folds.{Folding}
use Rattle.list_fold.proofs.fold.fold_clauses.Given as goal

abbrev pub invariant-loop-count : goal.invariant-loop-count
invariant-loop-count l =
    (48 * min (commas_in l.list) 15 + 96 ≤ length l.rows)
    × (l.count + commas_in (drop l.start l.list) ≡ commas_in l.list)
    × Walked l.list l.count l.start
    × Folding l.list l.count l.rows l.ranges
