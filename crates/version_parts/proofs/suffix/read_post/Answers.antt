-- `version_parts::suffix::read_post` meets its contract.
-- Assumes nothing.
use borrow.Author.Rules.{rules}
use Rattle.version_parts.specs.Suffix.{post_at}
use Rattle.version_parts.proofs.suffix.read_post.Goals as goal

pub returns-in_err-n : goal.returns-in_err-n
unfolding post_at
returns-in_err-n c = search rules

pub returns-in-Some : goal.returns-in-Some
unfolding post_at
returns-in-Some c = search rules

pub returns : goal.returns
unfolding post_at
returns c = search rules
