-- `boundary_fields::fields::span_at` meets its contract: by the test on the index.
-- Assumes nothing.
use borrow.Author.Rules.{rules}
use Rattle.chars.proofs.Cases.{cases}
use Rattle.boundary_fields.specs.Fields.{span_at}
use Rattle.boundary_fields.proofs.fields.span_at.Goals as goal

pub returns-then-index-lt16 : goal.returns-then-index-lt16
unfolding span_at
returns-then-index-lt16 c = search cases

pub returns : goal.returns
unfolding span_at
returns c = search cases
