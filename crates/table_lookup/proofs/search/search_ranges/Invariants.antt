-- What was held so far, with what is left to say, is all that is said.
use Rattle.std.specs.Prelude.{None}
use Prim.Native.Nat.{◌-◌}
use Rattle.table_reading.specs.Table.{ranges_from}
use Rattle.table_lookup.specs.Lookup.{searched_for}
use Rattle.table_lookup.proofs.Searching.{SoFar}
use Rattle.table_lookup.proofs.search.search_ranges.Given as goal

abbrev pub invariant-loop-read : goal.invariant-loop-read
invariant-loop-read l =
    SoFar l.table l.candidate l.held l.last l.next l.high (l.count - l._read) (searched_for l.candidate (ranges_from l.count None l.table l.start))
