-- The end that is left to find is always the same.
use Rattle.std.proofs.Common.{◌≡◌, ◌-◌, ◌*◌}
use Rattle.list_ends.specs.Number.{place_from}
use Rattle.list_fold.proofs.end_number.clause_end.Given as goal

abbrev pub invariant-loop-passed : goal.invariant-loop-passed
invariant-loop-passed l = place_from l.list l.start (l.number - 2 * l._passed) ≡ place_from l.list 0 l.number
