-- The digits from here on are the rest of all.
use Rattle.std.proofs.Common.{◌≡◌, ◌+◌, ◌<◌, ◌≤◌, ◌^◌, length, drop}
use Rattle.decimal.specs.Parse.{digits_of}
use Rattle.decimal.proofs.Values.{leading_from}
use Rattle.decimal.proofs.parse.leading_number.Given as goal

abbrev pub invariant-loop-i : goal.invariant-loop-i
invariant-loop-i l =
    (l.i ≤ length l.rest)
    × (l.value < 2 ^ 64)
    × (l.i + digits_of (drop l.i l.rest) ≡ digits_of l.rest)
    × (leading_from l.value (drop l.i l.rest) ≡ leading_from 0 l.rest)
