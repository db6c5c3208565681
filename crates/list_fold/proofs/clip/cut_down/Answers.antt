-- `list_fold::clip::cut_down` meets its contract.
-- Assumes nothing.
use borrow.Author.Rules.{rules}
use Rattle.list_fold.proofs.Packed.{settled}
use Rattle.list_fold.proofs.Parts.{spans, leaves_hole}
use Rattle.list_fold.proofs.clip.cut_down.Goals as goal

pub clip-below-requires : goal.clip-below-requires
clip-below-requires c = (search rules, search rules, search settled)

pub clip-requires : goal.clip-requires
clip-requires c = (search rules, search rules, search settled)

pub returns-then-hollow : goal.returns-then-hollow
returns-then-hollow c = search leaves_hole

pub clip-requires-2 : goal.clip-requires-2
clip-requires-2 c = (search rules, search rules, search settled)

pub returns : goal.returns
returns c = search spans
