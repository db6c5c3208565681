-- `version_parts::places::number_at` meets its contract: what leads the rest of the text stands there.
-- Assumes nothing.
use borrow.Author.Rules.{rules}
use Rattle.chars.proofs.Parts.{take_rest}
use Rattle.version_parts.specs.Places.{number_at}
use Rattle.version_parts.proofs.AtPlaces.{number_past, number_ends}
use Rattle.version_parts.proofs.places.number_at.Goals as goal

pub returns-then-s-at : goal.returns-then-s-at
returns-then-s-at c = record { is = search number_past; within = search rules }

pub returns-in-Ok-None : goal.returns-in-Ok-None
unfolding number_at
returns-in-Ok-None c = search (rules, take_rest)

pub returns-in-Ok-Some : goal.returns-in-Ok-Some
unfolding number_at
returns-in-Ok-Some c = record { is = search (rules, take_rest); within = search number_ends }

pub returns-in-Err-TooBig : goal.returns-in-Err-TooBig
unfolding number_at
returns-in-Err-TooBig c = search (rules, take_rest)
