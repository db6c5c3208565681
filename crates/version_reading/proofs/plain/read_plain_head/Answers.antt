-- `version_reading::plain::read_plain_head` meets its contract.
-- Assumes nothing.
use borrow.Author.Rules.{rules}
use Rattle.chars.proofs.Cases.{cases}
use Rattle.version_reading.specs.Plain.{plain_head_of}
use Rattle.version_reading.proofs.plain.read_plain_head.Goals as goal

pub returns-in_default : goal.returns-in_default
unfolding plain_head_of
returns-in_default c = search rules

pub returns-in_default-2 : goal.returns-in_default-2
unfolding plain_head_of
returns-in_default-2 c = search rules

pub returns-then-byte_at-eq33 : goal.returns-then-byte_at-eq33
unfolding plain_head_of
returns-then-byte_at-eq33 c = search (rules, cases)

pub returns : goal.returns
unfolding plain_head_of
returns c = search (rules, cases)
