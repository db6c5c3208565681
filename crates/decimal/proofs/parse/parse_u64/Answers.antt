-- The turn and each way out are one law of proofs.Values.
use Rattle.std.proofs.Common.{arith, rules}
use Rattle.decimal.proofs.Values.{parse_big, parse_on, parse_done}
use Rattle.decimal.proofs.parse.parse_u64.Goals as goal

pub returns-in-None : goal.returns-in-None
returns-in-None c = parse_big _ _ _ c.loop-b.invariant.1 _ (omega arith) c.digit.ensures.is c.in-None.ensures

pub loop-b-preserved : goal.loop-b-preserved
loop-b-preserved c = (search rules, parse_on _ _ _ c.loop-b.invariant.1 _ _ (omega arith) c.digit.ensures.is c.in-Some.ensures)

pub returns : goal.returns
returns c = search parse_done
