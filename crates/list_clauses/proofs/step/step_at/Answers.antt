-- `list_clauses::step::step_at` meets its contract.
-- Assumes nothing.
use Rattle.list_clauses.proofs.Steps.{step_made}
use borrow.Author.Rules.{rules}
use Rattle.list_clauses.proofs.step.step_at.Goals as goal

pub returns : goal.returns
returns c = record { is = search step_made; few = search rules; onward = search rules; within = search rules }
