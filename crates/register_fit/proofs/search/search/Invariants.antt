-- No table so far is refused, and the two lowest so far are kept.
use Rattle.register_fit.proofs.Searching.{Left}
use Rattle.register_fit.proofs.search.search.Given as goal

abbrev pub invariant-loop-i : goal.invariant-loop-i
invariant-loop-i l = Left l.buffer l.verdict l.row l.entries l.i l.lowest
