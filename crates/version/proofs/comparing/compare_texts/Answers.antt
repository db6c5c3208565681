-- `version::comparing::compare_texts` meets its contract.
-- Assumes nothing.
use Rattle.version.proofs.Compares.{both_plain}
use Rattle.version.proofs.comparing.compare_texts.Goals as goal

pub returns-in-Some-Some : goal.returns-in-Some-Some
returns-in-Some-Some c = search both_plain
