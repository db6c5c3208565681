-- `version_word::packed::packed` meets its contract: one law for each way out.
-- Assumes nothing.
use Rattle.version_word.proofs.Packs.{numbers_large, suffix_not_small, word_packed}
use Rattle.version_word.proofs.packed.packed.Goals as goal

pub returns-in_err-high : goal.returns-in_err-high
returns-in_err-high c = search (numbers_large, c.in_err-high.ensures.is)

pub returns-in_err-low : goal.returns-in_err-low
returns-in_err-low c = search (suffix_not_small, c.in_ok-high.ensures.is, c.in_err-low.ensures.is)

pub returns : goal.returns
returns c = search (word_packed, c.in_ok-high.ensures.is, c.in_ok-low.ensures.is)
