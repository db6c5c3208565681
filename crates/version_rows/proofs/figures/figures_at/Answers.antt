-- `version_rows::figures::figures_at` meets its contract: one law for each way out.
-- Assumes nothing.
use Rattle.version_rows.proofs.FiguresRead.{zero_alone, first_figure}
use borrow.Author.Rules.{rules}
use Rattle.version_rows.proofs.figures.figures_at.Goals as goal

pub returns-then-b-gt48 : goal.returns-then-b-gt48
returns-then-b-gt48 c = search first_figure

pub returns : goal.returns
returns c = record { written = search zero_alone; within = search rules; fits = search rules }
