-- `table_lookup::search::search_table` meets its contract: one law for each way out.
-- Assumes nothing.
use Rattle.records.proofs.Reading.{found_ordered}
use Rattle.table_lookup.proofs.Searching.{first_missing, first_other, count_long, count_over, count_read}
use Rattle.table_lookup.proofs.search.search_table.Goals as goal

pub returns-in_default : goal.returns-in_default
returns-in_default c = search first_missing

pub returns-in_default-kind_of : goal.returns-in_default-kind_of
returns-in_default-kind_of c = search first_other

pub overflow_sub-next : goal.overflow_sub-next
overflow_sub-next c = search found_ordered

pub returns-then-next-start-ne2 : goal.returns-then-next-start-ne2
returns-then-next-start-ne2 c = search count_long

pub returns-then-count-gt17 : goal.returns-then-count-gt17
returns-then-count-gt17 c = search count_over

pub returns : goal.returns
returns c = search count_read
