-- `version_normal::numbers::put_release`: so far it wrote the numbers up to the loop's, joined by dots.
use Rattle.std.proofs.Common.{◌+◌, ◌*◌, ◌≤◌, get_or}
use Rattle.decimal.specs.Put.{Wrote}
use Rattle.decimal.specs.Digits.{decimal}
use Rattle.version_normal.specs.Normal.{joined}
use Rattle.version_normal.proofs.numbers.put_release.Given as goal

abbrev pub invariant-loop-number : goal.invariant-loop-number
invariant-loop-number l = record {
  near : l.next ≤ l.fn.at + 21 * (l.number-index + 1);
  wrote : Wrote l.fn.buf l.fn.at (joined (λ k. decimal (get_or l.fn.release.numbers k 0)) (l.number-index + 1)) l.buf l.next;
}
