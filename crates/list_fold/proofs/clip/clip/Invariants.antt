-- So far the parts of the first ranges stand after the others.
use Rattle.list_fold.proofs.Parts.{Clipped}
use Rattle.list_fold.proofs.clip.clip.Given as goal

abbrev pub invariant-loop-range : goal.invariant-loop-range
invariant-loop-range l = Clipped l.rows l.low l.high l.ranges l.fn.others l.range-index l.parts
