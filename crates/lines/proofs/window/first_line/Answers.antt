-- One law for each way out.
use Rattle.lines.proofs.Fronts.{front_whole, front_cut, front_none}
use Rattle.lines.proofs.window.first_line.Goals as goal

pub returns-then-len-text : goal.returns-then-len-text
returns-then-len-text c = search front_whole

pub returns-then-longest_open-len : goal.returns-then-longest_open-len
returns-then-longest_open-len c = search front_cut

pub returns : goal.returns
returns c = search front_none
