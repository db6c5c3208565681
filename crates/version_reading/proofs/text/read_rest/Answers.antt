-- `version_reading::text::read_rest` meets its contract.
-- Assumes nothing.
use borrow.Author.Rules.{rules}
use Rattle.version_reading.specs.Reading.{after_release}
use Rattle.version_reading.proofs.text.read_rest.Goals as goal

pub returns-in_err-pre : goal.returns-in_err-pre
unfolding after_release
returns-in_err-pre c = search rules

pub returns : goal.returns
unfolding after_release
returns c = search rules
