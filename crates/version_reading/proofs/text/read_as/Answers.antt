-- `version_reading::text::read_as` meets its contract.
-- Assumes nothing.
use Rattle.version_reading.proofs.PlainRead.{plain_promised}
use Rattle.version_reading.proofs.text.read_as.Goals as goal

pub returns-in-Some : goal.returns-in-Some
returns-in-Some c = search plain_promised
