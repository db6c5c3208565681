-- `version_parts::places::separator_end` meets its contract: one law for each way out.
-- Assumes nothing.
use borrow.Author.Rules.{rules}
use Rattle.version_parts.proofs.AtPlaces.{separator_there, separator_missing}
use Rattle.version_parts.proofs.places.separator_end.Goals as goal

pub returns-then-class_of-eq-SEPARATOR : goal.returns-then-class_of-eq-SEPARATOR
returns-then-class_of-eq-SEPARATOR c = record { is = search separator_there; from = search rules; within = search rules }

pub returns : goal.returns
returns c = record { is = search separator_missing; from = search rules; within = search rules }
