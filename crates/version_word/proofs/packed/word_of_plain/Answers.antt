-- `version_word::packed::word_of_plain` meets its contract.
-- Assumes nothing.
use borrow.Author.Rules.{rules}
use Rattle.version_word.specs.Beside.{word_of_plain}
use Rattle.version_word.proofs.packed.word_of_plain.Goals as goal

pub returns : goal.returns
unfolding word_of_plain
returns c = search rules
