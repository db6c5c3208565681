-- `version_prefix::prefix::begins_with`: what stands from `i` on begins with the prefix from `i` on exactly if the whole does.
use Rattle.std.proofs.Common.{◌≡◌, drop}
use Rattle.version_prefix.specs.Prefix.{begins}
use Rattle.version_prefix.proofs.prefix.begins_with.Given as goal

abbrev pub invariant-loop-i : goal.invariant-loop-i
invariant-loop-i l = begins (drop l.i l.prefix) (drop l.i l.numbers) ≡ begins l.prefix l.numbers
