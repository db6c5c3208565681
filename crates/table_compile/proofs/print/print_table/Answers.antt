-- `table_compile::print::print_table` meets its contract: where there is room for any table of that count, it is written at once.
-- Assumes nothing.
use Rattle.table_compile.proofs.Writing.{at_once}
use Rattle.table_compile.proofs.print.print_table.Goals as goal

pub returns : goal.returns
returns c = search at_once
