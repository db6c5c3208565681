-- `table_compile::record::put_end` meets its contract: the body tells the length of which the head in front of it speaks.
-- Assumes nothing.
use native.Mathlib.Omega.{arith}
use Rattle.records.proofs.Writing.{front_put}
use borrow.Author.Rules.{rules}
use Rattle.table_compile.proofs.record.put_end.Goals as goal

pub returns : goal.returns
returns c =
    let head = c.before in
    let body = head.before.before.before.before in
    record {
      wrote = front_put 1049325 _ _ _ _ _ _ _ _ (omega arith) body.put_body-next.ensures head.put_head.ensures;
      near = search rules;
    }
