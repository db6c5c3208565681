-- The bytes of a line that was found.
use Rattle.lines.proofs.Fronts.{line_text}
use Rattle.lines.proofs.window.text_of.Goals as goal

pub returns-in-Line : goal.returns-in-Line
returns-in-Line c = search line_text
