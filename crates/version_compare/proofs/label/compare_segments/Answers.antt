-- `version_compare::label::compare_segments` meets its contract: one law for each way out.
-- Assumes nothing.
use Rattle.order.proofs.Named.{number_is}
use Rattle.version_compare.proofs.Labels.{two_numbers, number_and_text, text_and_number, two_texts}
use Rattle.version_compare.proofs.label.compare_segments.Goals as goal

pub returns-in-Number-segment_of : goal.returns-in-Number-segment_of
returns-in-Number-segment_of c = search (two_numbers, number_is)

pub returns-in-Text-segment_of : goal.returns-in-Text-segment_of
returns-in-Text-segment_of c = search number_and_text

pub returns-in-Number-segment_of-2 : goal.returns-in-Number-segment_of-2
returns-in-Number-segment_of-2 c = search text_and_number

pub returns-in-Text-segment_of-2 : goal.returns-in-Text-segment_of-2
returns-in-Text-segment_of-2 c = search two_texts
