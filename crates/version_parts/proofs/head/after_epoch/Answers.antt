-- `version_parts::head::after_epoch` meets its contract.
-- Assumes nothing.
use borrow.Author.Rules.{rules}
use Rattle.version_parts.specs.Head.{after_epoch}
use Rattle.version_parts.proofs.head.after_epoch.Goals as goal

pub returns-in_err-first : goal.returns-in_err-first
unfolding after_epoch
returns-in_err-first c = search rules

pub returns-in_default : goal.returns-in_default
unfolding after_epoch
returns-in_default c = search rules

pub returns : goal.returns
unfolding after_epoch
returns c = search rules
