-- `version_compare::label::compare_labels`: the segments from `i` on compare as all of them do.
use Rattle.std.proofs.Common.{◌≡◌}
use Rattle.version_compare.proofs.Labels.{segments_from}
use Rattle.version_compare.proofs.label.compare_labels.Given as goal

abbrev pub invariant-loop-i : goal.invariant-loop-i
invariant-loop-i l = segments_from l.s l.a l.t l.b l.m l.n l.i ≡ segments_from l.s l.a l.t l.b l.m l.n 0
