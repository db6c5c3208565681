-- `version::comparing::compare_accepted` meets its contract: the words decide, or the fields.
-- Assumes nothing.
use Rattle.order.proofs.Named.{number_is}
use Rattle.version.proofs.Compares.{by_fields, by_words}
use Rattle.version.proofs.comparing.compare_accepted.Goals as goal

pub returns-in-Some-Some : goal.returns-in-Some-Some
returns-in-Some-Some c = search (by_words, number_is)

pub returns-in_default : goal.returns-in_default
returns-in_default c = search by_fields
