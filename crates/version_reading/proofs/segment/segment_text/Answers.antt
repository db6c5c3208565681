-- `version_reading::segment::segment_text` meets its contract: one law for each way out.
-- Assumes nothing.
use Rattle.version_reading.proofs.Segments.{text_missing, text_there}
use Rattle.version_reading.proofs.segment.segment_text.Goals as goal

pub returns-in_default : goal.returns-in_default
returns-in_default c = search text_missing

pub returns : goal.returns
returns c = search text_there
