-- `version_rows::figures::part_at` meets its contract: one law for each way out.
-- Assumes nothing.
use Rattle.version_rows.proofs.FiguresRead.{part_after}
use Rattle.version_rows.proofs.figures.part_at.Goals as goal

pub returns-in-Some : goal.returns-in-Some
returns-in-Some c = search part_after
