-- The first line feed, or the end.
use borrow.Author.Rules.{rules}
use Rattle.lines.proofs.Fronts.{line_found}
use Rattle.lines.proofs.window.line_length.Goals as goal

pub returns : goal.returns
returns c = record { is = search line_found; within = search rules }
