-- `version_word::packed::word_of` meets its contract: one law for each way out.
-- Assumes nothing.
use Rattle.version_word.proofs.Packs.{epoch_large, release_long, label_there, fields_packed}
use Rattle.version_word.proofs.packed.word_of.Goals as goal

pub returns-then-version-ne0 : goal.returns-then-version-ne0
returns-then-version-ne0 c = search epoch_large

pub returns-then-release-gt4 : goal.returns-then-release-gt4
returns-then-release-gt4 c = search release_long

pub returns-then-version-ne0-2 : goal.returns-then-version-ne0-2
returns-then-version-ne0-2 c = search label_there

pub returns : goal.returns
returns c = search fields_packed
