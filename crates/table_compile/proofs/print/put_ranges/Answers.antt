-- None yet, one range more, and the end.
use Rattle.std.proofs.Common.{rules}
use Rattle.table_compile.proofs.Writing.{ranges_start, ranges_next, ranges_done}
use Rattle.table_compile.proofs.print.put_ranges.Goals as goal

pub loop-range-init : goal.loop-range-init
loop-range-init c = (search rules, search (ranges_start, rules))

pub loop-range-preserved : goal.loop-range-preserved
loop-range-preserved c = (search rules, search (ranges_next, rules))

pub returns : goal.returns
returns c = record { wrote = search (ranges_done, rules); near = search rules }
