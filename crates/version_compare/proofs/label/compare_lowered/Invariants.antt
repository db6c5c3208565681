-- `version_compare::label::compare_lowered`: the bytes from `i` on compare as all of them do.
use Rattle.std.proofs.Common.{◌≡◌, drop}
use Rattle.version_compare.proofs.Bytes.{texts}
use Rattle.version_compare.proofs.label.compare_lowered.Given as goal

abbrev pub invariant-loop-i : goal.invariant-loop-i
invariant-loop-i l = texts (drop l.i l.a) (drop l.i l.b) ≡ texts l.a l.b
