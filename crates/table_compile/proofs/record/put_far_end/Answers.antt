-- `table_compile::record::put_far_end` meets its contract: the first run tells the length.
-- Assumes nothing.
use Rattle.table_compile.proofs.Bodies.{far_put}
use borrow.Author.Rules.{rules}
use Rattle.table_compile.proofs.record.put_far_end.Goals as goal

pub returns : goal.returns
returns c = record { wrote = search far_put; near = search rules }
