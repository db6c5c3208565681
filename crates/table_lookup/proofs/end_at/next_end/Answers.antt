-- `table_lookup::end_at::next_end` meets its contract: one law for each way out.
use Rattle.std.proofs.Common.{rules}
use Rattle.records.proofs.Reading.{found_ordered, found_within, found_starts}
use Rattle.table_lookup.proofs.Rising.{end_missing, end_other, end_not_due, end_read}
use Rattle.table_lookup.proofs.end_at.next_end.Goals as goal

pub returns-in_default : goal.returns-in_default
returns-in_default c = search end_missing

pub returns-in_default-kind_of : goal.returns-in_default-kind_of
returns-in_default-kind_of c = search end_other

pub slice_bounds-end_above-count : goal.slice_bounds-end_above-count
slice_bounds-end_above-count c = search (found_ordered, rules)

pub slice_bounds-end_above-start : goal.slice_bounds-end_above-start
slice_bounds-end_above-start c = search (found_starts, found_ordered, found_within, rules)

pub slice_bounds-end_above-end : goal.slice_bounds-end_above-end
slice_bounds-end_above-end c = search (found_within, rules)

pub returns-then-eq : goal.returns-then-eq
returns-then-eq c = search end_read

pub returns : goal.returns
returns c = search end_not_due
