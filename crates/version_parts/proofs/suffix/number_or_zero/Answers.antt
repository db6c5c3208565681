-- `version_parts::suffix::number_or_zero` meets its contract.
-- Assumes nothing.
use borrow.Author.Rules.{rules}
use Rattle.version_parts.specs.Suffix.{number_or_zero}
use Rattle.version_parts.proofs.suffix.number_or_zero.Goals as goal

pub returns-in_err-number_at : goal.returns-in_err-number_at
unfolding number_or_zero
returns-in_err-number_at c = search rules

pub returns : goal.returns
unfolding number_or_zero
returns c = search rules
