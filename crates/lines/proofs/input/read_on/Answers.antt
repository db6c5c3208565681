-- What was held stays, what came stands after it, and where nothing came the input has ended.
use Rattle.std.proofs.Common.{rules}
use Rattle.lines.proofs.Reading.{kept_before, came_behind, nothing_came}
use Rattle.lines.proofs.input.read_on.Goals as goal

pub returns : goal.returns
returns g c = record {
  first = search rules;
  kept = search kept_before;
  onward = search came_behind;
  within = search rules;
  cut = search rules;
  done = search nothing_came;
}
