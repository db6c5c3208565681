-- `version_reading::segment::segment_of` meets its contract: one law for each way out.
-- Assumes nothing.
use Rattle.version_reading.proofs.Segments.{segment_word, segment_long, segment_number}
use Rattle.version_reading.proofs.segment.segment_of.Goals as goal

pub returns-then-run-bytes : goal.returns-then-run-bytes
returns-then-run-bytes c = search segment_word

pub returns-in_default : goal.returns-in_default
returns-in_default c = search segment_long

pub returns : goal.returns
returns c = search segment_number
