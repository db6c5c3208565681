-- An end that is refused, a range that was read, and the end of the table.
use Rattle.std.proofs.Common.{rules, ◌≡◌, Err}
use Rattle.table_lookup.proofs.Searching.{lower_bad, upper_bad, range_read, ranges_end, bytes_after}
use Rattle.table_lookup.proofs.search.search_ranges.Goals as goal

pub returns-in_err-lower : goal.returns-in_err-lower
returns-in_err-lower c =
    let e : c.from_residual.result ≡ Err c.in_err-lower.field-0.0 = search rules in
    lower_bad _ _ _ _ _ _ _ _ _ c.loop-read.invariant (search rules) _ _ c.next_end.ensures _ _ c.in_err-lower.was e

pub returns-in_err-upper : goal.returns-in_err-upper
returns-in_err-upper c =
    let e : c.from_residual-in_err-upper.result ≡ Err c.in_err-upper.field-0.0 = search rules in
    upper_bad _ _ _ _ _ _ _ _ _ c.loop-read.invariant (search rules) _ _ c.next_end.ensures _ c.in_ok-lower.was _ _ c.next_end-in-loop-read.ensures _ _ c.in_err-upper.was e

pub loop-read-preserved : goal.loop-read-preserved
loop-read-preserved c = search (range_read, rules, c.in_ok-lower.was, c.in_ok-upper.was)

pub returns-then-next-table : goal.returns-then-next-table
returns-then-next-table c = search (ranges_end, rules)

pub returns : goal.returns
returns c = search (bytes_after, rules)
