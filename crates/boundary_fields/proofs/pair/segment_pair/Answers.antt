-- `boundary_fields::pair::segment_pair` meets its contract: each kind has its number.
-- Assumes nothing.
use borrow.Author.Rules.{rules}
use Rattle.boundary_fields.proofs.pair.segment_pair.Goals as goal

pub returns-in-Number : goal.returns-in-Number
returns-in-Number c = cc

pub returns-in-Text : goal.returns-in-Text
returns-in-Text c = cc
