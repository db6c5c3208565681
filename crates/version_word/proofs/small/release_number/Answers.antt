-- `version_word::small::release_number` meets its contract: one law for each way out.
-- Assumes nothing.
use Rattle.version_word.proofs.Parts.{number_behind, number_outside, number_there}
use Rattle.version_word.proofs.small.release_number.Goals as goal

pub returns-then-release-at : goal.returns-then-release-at
returns-then-release-at c = search number_behind

pub returns-then-at-ge16 : goal.returns-then-at-ge16
returns-then-at-ge16 c = search number_outside

pub returns : goal.returns
returns c = search number_there
