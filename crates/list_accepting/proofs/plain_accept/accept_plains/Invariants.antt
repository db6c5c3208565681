-- So far clauses were read, and `so_far` is what they say.
use Rattle.std.proofs.Common.{◌≡◌}
use Rattle.list_accepting.specs.Plain.{plain_value}
use Rattle.list_clauses.specs.Step.{first_clauses}
use Rattle.list_clauses.proofs.Walks.{Walked}
use Rattle.list_accepting.specs.Accept.{all_accept}
use Rattle.list_accepting.proofs.plain_accept.accept_plains.Given as goal

abbrev pub invariant-loop-count : goal.invariant-loop-count
invariant-loop-count l = Walked l.list l._count l.start × (l.so_far ≡ all_accept (first_clauses l.list l._count) (plain_value l.candidate))
