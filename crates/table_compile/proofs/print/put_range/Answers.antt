-- `table_compile::print::put_range` meets its contract: a lower and an upper end.
-- Assumes nothing.
use Rattle.table_compile.proofs.Writing.{range_put}
use borrow.Author.Rules.{rules}
use Rattle.table_compile.proofs.print.put_range.Goals as goal

pub returns : goal.returns
returns c = record { wrote = search range_put; near = search rules }
