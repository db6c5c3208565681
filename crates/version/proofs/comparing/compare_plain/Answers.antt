-- `version::comparing::compare_plain` meets its contract.
-- Assumes nothing.
use Rattle.order.proofs.Named.{number_is}
use Rattle.version_word.proofs.Beside.{plain_words_decide}
use Rattle.version.proofs.comparing.compare_plain.Goals as goal

pub returns-in-Some-Some : goal.returns-in-Some-Some
returns-in-Some-Some c = search (plain_words_decide, number_is)
