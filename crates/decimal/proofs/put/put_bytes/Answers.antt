-- One more byte behind the bytes so far.
use Rattle.std.proofs.Common.{sym, arith, take-suc, add-one}
use Rattle.decimal.proofs.Puts.{then, retext}
use Rattle.decimal.proofs.put.put_bytes.Goals as goal

pub loop-b-preserved : goal.loop-b-preserved
loop-b-preserved c =
    let one_more = take-suc c.args.s.now c.loop-b.b-index 0 (omega arith) in
    (omega arith, retext (sym (rw (add-one, one_more))) (then c.loop-b.invariant.1 c.put_byte-next.ensures.wrote))
