-- `version_compare::label::compare_labels`: one law for each way.
use Rattle.order.proofs.Named.{number_is}
use Rattle.version_compare.proofs.Labels.{segments_differ, segments_agree, segments_end}
use Rattle.version_compare.proofs.label.compare_labels.Goals as goal

pub returns-in_default : goal.returns-in_default
returns-in_default c = search segments_differ

pub loop-i-preserved : goal.loop-i-preserved
loop-i-preserved c =
    segments_agree _ _ _ _ _ _ _ _ c.min-i-end.ensures c.loop-i.invariant _ _ c.segment_bytes-one.ensures.is c.segment_bytes-other.ensures.is
    c.loop-i-test.true _ c.compare_segments-by_segment.ensures c.in-Equal.is

pub returns : goal.returns
returns c = search (segments_end, number_is)
