-- `version_reading::label::read_segments` meets its contract: one law for each way out.
-- Assumes nothing.
use borrow.Author.Rules.{rules}
use Rattle.version_reading.proofs.Labels.{segment_empty, segment_full, segment_last, segment_more}
use Rattle.version_reading.proofs.label.read_segments.Goals as goal

pub returns-then-end-at : goal.returns-then-end-at
returns-then-end-at c = record { is = search segment_empty; within = search rules; few = search rules }

pub returns-then-local-eq16 : goal.returns-then-local-eq16
returns-then-local-eq16 c = record { is = search segment_full; within = search rules; few = search rules }

pub returns-then-next-end : goal.returns-then-next-end
returns-then-next-end c = record { is = search segment_last; within = search rules; few = search rules }

pub loop-at-preserved : goal.loop-at-preserved
loop-at-preserved c = (search rules, search rules, search segment_more)
