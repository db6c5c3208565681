-- `knappulf::read_fields` meets its contract: a plain version is what the rules say, and else they say it.
-- Assumes nothing.
use borrow.Author.Rules.{rules}
use Rattle.boundary_fields.proofs.Plains.{plain_pattern}
use Rattle.boundary_answers.proofs.Plains.{plain_verdict, plain_wildcard}
use Rattle.knappulf.proofs.read_fields.Goals as goal

pub returns-in-Some : goal.returns-in-Some
returns-in-Some c = record { verdict = search plain_verdict; wildcard = search plain_wildcard; fields_after = search plain_pattern }
