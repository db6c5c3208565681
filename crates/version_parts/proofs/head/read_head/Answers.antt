-- `version_parts::head::read_head` meets its contract.
-- Assumes nothing.
use borrow.Author.Rules.{rules}
use Rattle.chars.proofs.Cases.{cases}
use Rattle.version_parts.specs.Head.{head_at, head_of}
use Rattle.version_parts.proofs.head.read_head.Goals as goal

pub returns-in_err-n : goal.returns-in_err-n
unfolding head_of head_at
returns-in_err-n c = search rules

pub returns-in_default : goal.returns-in_default
unfolding head_of head_at
returns-in_default c = search rules

pub returns-then-byte_at-eq33 : goal.returns-then-byte_at-eq33
unfolding head_of head_at
returns-then-byte_at-eq33 c = search (rules, cases)

pub returns : goal.returns
unfolding head_of head_at
returns c = search (rules, cases)
