-- The value of the digits so far, with those to come, is the value of all.
use Rattle.std.proofs.Common.{◌≡◌, ◌<◌, ◌^◌, drop}
use Rattle.decimal.specs.Parse.{value_from}
use Rattle.decimal.proofs.parse.parse_u64.Given as goal

abbrev pub invariant-loop-b : goal.invariant-loop-b
invariant-loop-b l = (l.value < 2 ^ 64) × (value_from l.value (drop l.b-index l.digits) ≡ value_from 0 l.digits)
