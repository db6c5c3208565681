-- `table_compile::record::put_count` meets its contract: a record of two bytes.
-- Assumes nothing.
use Rattle.table_compile.proofs.Bodies.{count_put}
use borrow.Author.Rules.{rules}
use Rattle.table_compile.proofs.record.put_count.Goals as goal

pub returns : goal.returns
returns c = record { wrote = search count_put; near = search rules }
