-- `version_parts::suffix::read_dev` meets its contract.
-- Assumes nothing.
use borrow.Author.Rules.{rules}
use Rattle.chars.proofs.Parts.{take_rest}
use Rattle.version_parts.specs.Suffix.{dev_at}
use Rattle.version_parts.proofs.Suffixes.{plain_ends}
use Rattle.version_parts.proofs.suffix.read_dev.Goals as goal

pub read_spelled-requires : goal.read_spelled-requires
unfolding dev_at
read_spelled-requires c = (search rules, search plain_ends)

pub returns : goal.returns
unfolding dev_at
returns c = search (rules, take_rest)
