-- `list_fold::clip::keep` meets its contract.
-- Assumes nothing.
use Rattle.list_fold.proofs.Parts.{kept_none, kept_one}
use Rattle.list_fold.proofs.clip.keep.Goals as goal

pub returns-then-at_most : goal.returns-then-at_most
returns-then-at_most c = search kept_none

pub returns : goal.returns
returns c = search kept_one
