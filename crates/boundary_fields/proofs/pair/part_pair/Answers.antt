-- `boundary_fields::pair::part_pair` meets its contract: each kind has its number.
-- Assumes nothing.
use borrow.Author.Rules.{rules}
use Rattle.boundary_fields.proofs.pair.part_pair.Goals as goal

pub returns-in-None : goal.returns-in-None
returns-in-None c = cc

pub returns-in-Some : goal.returns-in-Some
returns-in-Some c = cc
