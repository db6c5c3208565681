-- One law for each way out.
use Rattle.lines.proofs.Fronts.{at_the_end, to_read}
use Rattle.lines.proofs.window.tell_nothing.Goals as goal

pub returns-then-window : goal.returns-then-window
returns-then-window c = search at_the_end

pub returns : goal.returns
returns c = search to_read
