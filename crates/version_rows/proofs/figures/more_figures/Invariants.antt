-- `version_rows::figures::more_figures`: the number so far and the rest are the whole text.
use Rattle.std.proofs.Common.{◌≡◌, ◌≤◌, ◌<◌, ◌^◌, ◌++◌, drop}
use Rattle.decimal.specs.Digits.{decimal}
use Rattle.version_rows.proofs.figures.more_figures.Given as goal

abbrev pub invariant-loop-i : goal.invariant-loop-i
invariant-loop-i l = record {
  some : 1 ≤ l.value;
  fits : l.value < 2 ^ 64;
  text : decimal l.value ++ drop l.i l.s ≡ decimal l.first ++ drop l.at l.s;
}
