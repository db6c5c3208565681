-- So far clauses were read, and `so_far` is what they say.
use Rattle.std.proofs.Common.{◌≡◌}
use mathlib.Core.List.{[]}
use Rattle.version_reading.specs.Value.{value_of}
use Rattle.list_clauses.specs.Step.{first_clauses}
use Rattle.list_clauses.proofs.Walks.{Walked}
use Rattle.list_accepting.specs.Accept.{all_accept}
use Rattle.list_accepting.proofs.accept.accept_clauses.Given as goal

abbrev pub invariant-loop-count : goal.invariant-loop-count
invariant-loop-count l = Walked l.list l._count l.start × (l.so_far ≡ all_accept (first_clauses l.list l._count) (value_of [] l.version))
