-- So far the first commas were counted.
use Rattle.std.proofs.Common.{◌≡◌, ◌≤◌, ◌==◌, take}
use Rattle.std.specs.List.{count_by}
use Rattle.list_clauses.proofs.commas.count_commas.Given as goal

abbrev pub invariant-loop-b : goal.invariant-loop-b
invariant-loop-b l = (l.count ≤ l.b-index) × (l.count ≡ count_by (λ b. b == 44) (take l.b-index l.list))
