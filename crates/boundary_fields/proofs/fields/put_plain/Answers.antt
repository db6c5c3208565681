-- `boundary_fields::fields::put_plain` meets its contract: the numbers that are there, over zeros.
-- Assumes nothing.
use borrow.Author.Rules.{rules}
use Rattle.boundary_fields.proofs.Plains.{plain_filled}
use Rattle.boundary_fields.proofs.fields.put_plain.Goals as goal

pub returns : goal.returns
returns c = plain_filled _ _ cc
