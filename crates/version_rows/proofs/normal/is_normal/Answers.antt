-- `version_rows::normal::is_normal` meets its contract: one law for each way out.
-- Assumes nothing.
use lib.Seq.{length-take-le}
use Rattle.version_rows.proofs.NormalTexts.{normal_fits, normal_within, normal_same}
use borrow.Author.Rules.{rules}
use Rattle.version_rows.proofs.normal.is_normal.Goals as goal

pub returns-in_default : goal.returns-in_default
returns-in_default c = search normal_fits

pub slice_bounds-buffer-end : goal.slice_bounds-buffer-end
slice_bounds-buffer-end c = search (normal_within, rules)

pub slice_bounds-same_bytes-end : goal.slice_bounds-same_bytes-end
slice_bounds-same_bytes-end c = search (length-take-le, normal_within, rules)

pub returns : goal.returns
returns c = search normal_same
