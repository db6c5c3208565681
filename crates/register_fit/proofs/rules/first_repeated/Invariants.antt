-- No entry so far has the identifier of an earlier one.
use Rattle.std.proofs.Common.{◌≡◌, ℕ, ◌<◌, false}
use Rattle.register_fit.specs.Rules.{is_repeated}
use Rattle.register_fit.proofs.rules.first_repeated.Given as goal

abbrev pub invariant-loop-i : goal.invariant-loop-i
invariant-loop-i l = (k : ℕ) → k < l.i → is_repeated l.entries k ≡ false
