-- `table_compile::print::print_measured` meets its contract: the first run says the length, the second writes.
-- Assumes nothing.
use native.Mathlib.Omega.{arith}
use Rattle.decimal.proofs.Puts.{short, printed}
use borrow.Author.Rules.{rules}
use Rattle.table_compile.proofs.print.print_measured.Goals as goal

pub returns-then-buf-need : goal.returns-then-buf-need
returns-then-buf-need c = short _ _ _ _ _ c.put_table-need.ensures (omega arith) _ c.if-buf-need.true

pub returns : goal.returns
returns c = printed _ _ _ _ _ c.put_table-need.ensures (omega arith) _ _ _ c.put_table-end.ensures (search rules)
