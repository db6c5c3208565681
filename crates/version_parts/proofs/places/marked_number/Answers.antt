-- `version_parts::places::marked_number` meets its contract.
-- Assumes nothing.
use borrow.Author.Rules.{rules}
use Rattle.chars.proofs.Cases.{cases}
use Rattle.version_parts.specs.Places.{marked_number}
use Rattle.version_parts.proofs.AtPlaces.{marked_past, behind_mark_lem}
use Rattle.version_parts.proofs.places.marked_number.Goals as goal

pub returns-then-s-at : goal.returns-then-s-at
unfolding marked_number
returns-then-s-at c = record { is = search marked_past; within = search rules; behind = search rules }

pub returns-then-s-at-2 : goal.returns-then-s-at-2
unfolding marked_number
returns-then-s-at-2 c = record { is = search cases; within = search rules; behind = search rules }

pub returns : goal.returns
unfolding marked_number
returns c = record { is = search cases; within = search rules; behind = search behind_mark_lem }
