-- `register_lines::line::id_said` meets its contract.
-- Assumes nothing.
use borrow.Author.Rules.{rules}
use Rattle.register_lines.specs.Line.{id_said}
use Rattle.register_lines.proofs.line.id_said.Goals as goal

pub returns-in_default : goal.returns-in_default
unfolding id_said
returns-in_default c = search rules

pub returns-in_default-2 : goal.returns-in_default-2
unfolding id_said
returns-in_default-2 c = search rules

pub returns : goal.returns
unfolding id_said
returns c = search rules
