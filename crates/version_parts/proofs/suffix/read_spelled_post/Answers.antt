-- `version_parts::suffix::read_spelled_post` meets its contract.
-- Assumes nothing.
use borrow.Author.Rules.{rules}
use Rattle.chars.proofs.Parts.{take_rest}
use Rattle.version_parts.specs.Suffix.{spelled_post}
use Rattle.version_parts.proofs.Suffixes.{plain_ends}
use Rattle.version_parts.proofs.suffix.read_spelled_post.Goals as goal

pub read_spelled-requires : goal.read_spelled-requires
unfolding spelled_post
read_spelled-requires c = (search rules, search plain_ends)

pub returns : goal.returns
unfolding spelled_post
returns c = search (rules, take_rest)
