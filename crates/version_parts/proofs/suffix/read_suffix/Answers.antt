-- `version_parts::suffix::read_suffix` meets its contract.
-- Assumes nothing.
use borrow.Author.Rules.{rules}
use Rattle.version_parts.specs.Suffix.{suffix_at}
use Rattle.version_parts.proofs.Suffixes.{suffix_past}
use Rattle.version_parts.proofs.suffix.read_suffix.Goals as goal

pub returns-then-s-at : goal.returns-then-s-at
returns-then-s-at c = record { is = search suffix_past; within = search rules }

pub returns-in_err-pre : goal.returns-in_err-pre
unfolding suffix_at
returns-in_err-pre c = search rules

pub returns-in_err-post : goal.returns-in_err-post
unfolding suffix_at
returns-in_err-post c = search rules

pub returns-in_err-dev : goal.returns-in_err-dev
unfolding suffix_at
returns-in_err-dev c = search rules

pub returns : goal.returns
unfolding suffix_at
returns c = search rules
