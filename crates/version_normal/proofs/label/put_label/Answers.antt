-- `version_normal::label::put_label`: one law for each way.
use Rattle.std.proofs.Common.{rules}
use Rattle.version_normal.proofs.Joins.{label_start, label_none, label_next, label_near, label_done}
use Rattle.version_normal.proofs.label.put_label.Goals as goal

pub returns-then-count-eq0 : goal.returns-then-count-eq0
returns-then-count-eq0 c = record { wrote = search label_none; near = search rules }

pub loop-i-init : goal.loop-i-init
loop-i-init c = record {
  near = search rules;
  wrote = label_start _ _ c.put_byte-first.ensures.wrote c.segment_bytes.ensures.is c.put_segment-next.ensures.wrote;
}

pub loop-i-preserved : goal.loop-i-preserved
loop-i-preserved c = record {
  near = search rules;
  wrote = label_next _ _ _ c.loop-i.invariant.wrote c.loop-i.auto.i c.put_byte-dot.ensures.wrote c.segment_bytes-in-loop-i.ensures.is
      c.put_segment-next-in-loop-i.ensures.wrote;
}

pub returns : goal.returns
returns c = record { wrote = search label_done; near = search label_near }
