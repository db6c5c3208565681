-- One law for each way out.
use Rattle.lines.proofs.Fronts.{not_cut, rest_whole, rest_open}
use Rattle.lines.proofs.window.past_cut.Goals as goal

pub returns-then-not-window : goal.returns-then-not-window
returns-then-not-window c = search not_cut

pub returns-then-len-text : goal.returns-then-len-text
returns-then-len-text c = search rest_whole

pub returns : goal.returns
returns c = search rest_open
