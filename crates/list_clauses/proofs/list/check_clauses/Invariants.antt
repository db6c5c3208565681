-- So far `count` clauses were read.
use Rattle.list_clauses.proofs.Walks.{Walked}
use Rattle.list_clauses.proofs.list.check_clauses.Given as goal

abbrev pub invariant-loop-count : goal.invariant-loop-count
invariant-loop-count l = Walked l.list l.count l.start
