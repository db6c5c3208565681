-- `version_compare::label::compare_lowered`: one law for each way. One is written out: a search would try each byte of the one text for that
-- of the other.
use Rattle.order.proofs.Named.{number_is}
use Rattle.version_compare.proofs.Bytes.{bytes_differ, bytes_agree, bytes_end}
use Rattle.version_compare.proofs.label.compare_lowered.Goals as goal

pub returns-then-x-y : goal.returns-then-x-y
returns-then-x-y c = search (bytes_differ, number_is)

pub loop-i-preserved : goal.loop-i-preserved
loop-i-preserved c =
    bytes_agree _ _ _ _ c.min-i-end.ensures c.loop-i.invariant _ _ c.lower-x.ensures.is c.lower-y.ensures.is c.loop-i-test.true c.if-x-y.false

pub returns : goal.returns
returns c = search (bytes_end, number_is)
