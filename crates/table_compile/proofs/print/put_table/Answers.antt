-- `table_compile::print::put_table` meets its contract: the count, then the ranges.
-- Assumes nothing.
use Rattle.table_compile.proofs.Writing.{table_put}
use borrow.Author.Rules.{rules}
use Rattle.table_compile.proofs.print.put_table.Goals as goal

pub returns : goal.returns
returns c = record { wrote = search table_put; near = search rules }
