-- `version_parts::suffix::read_pre` meets its contract.
-- Assumes nothing.
use borrow.Author.Rules.{rules}
use Rattle.chars.proofs.Parts.{take_rest}
use Rattle.version_parts.specs.Suffix.{pre_at}
use Rattle.version_parts.proofs.suffix.read_pre.Goals as goal

pub returns-in_default : goal.returns-in_default
unfolding pre_at
returns-in_default c = search (rules, take_rest)

pub returns-in_err-n : goal.returns-in_err-n
unfolding pre_at
returns-in_err-n c = search (rules, take_rest)

pub returns : goal.returns
unfolding pre_at
returns c = search (rules, take_rest)
