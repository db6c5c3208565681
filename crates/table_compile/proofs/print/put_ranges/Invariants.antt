-- What is written is the ranges so far.
use Rattle.std.proofs.Common.{◌+◌, ◌*◌, ◌≤◌, take}
use Rattle.decimal.specs.Put.{Wrote}
use Rattle.table_reading.specs.Text.{ranges_text}
use Rattle.table_compile.specs.Said.{said_by}
use Rattle.table_compile.proofs.print.put_ranges.Given as goal

abbrev pub invariant-loop-range : goal.invariant-loop-range
invariant-loop-range l =
    (l.next ≤ l.at + 2098658 * l.range-index)
    × Wrote l.fn.buf l.at (ranges_text (said_by l.list (take l.range-index l.ranges))) l.buf l.next
