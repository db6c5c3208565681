-- `version_reading::plain::read_plain` meets its contract.
-- Assumes nothing.
use borrow.Author.Rules.{rules}
use Rattle.chars.proofs.Cases.{cases}
use Rattle.version_reading.specs.Plain.{plain_of}
use Rattle.version_reading.proofs.plain.read_plain.Goals as goal

pub returns-then-s-gt1024 : goal.returns-then-s-gt1024
unfolding plain_of
returns-then-s-gt1024 c = search (rules, cases)

pub returns-in_err-head : goal.returns-in_err-head
unfolding plain_of
returns-in_err-head c = search (rules, cases)

pub returns : goal.returns
unfolding plain_of
returns c = search (rules, cases)
