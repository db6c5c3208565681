-- `register_lines::line::space_at` meets its contract.
-- Assumes nothing.
use borrow.Author.Rules.{rules}
use Rattle.register_lines.proofs.Lines.{space_found}
use Rattle.register_lines.proofs.line.space_at.Goals as goal

pub returns : goal.returns
returns c = record { is = search space_found; within = search rules }
