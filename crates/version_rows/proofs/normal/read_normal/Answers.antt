-- `version_rows::normal::read_normal` meets its contract: one law for each way out.
-- Assumes nothing.
use borrow.Author.Rules.{rules}
use Rattle.version_rows.proofs.NormalTexts.{read_fields, read_accepted, read_refused, read_labelled, read_normally, read_otherwise}
use Rattle.version_rows.proofs.normal.read_normal.Goals as goal

pub returns-in_default : goal.returns-in_default
returns-in_default c = search read_refused

pub returns-then-version-ne0 : goal.returns-then-version-ne0
returns-then-version-ne0 c = search read_labelled

pub is_normal-requires : goal.is_normal-requires
is_normal-requires c = search (read_fields, read_accepted, rules)

pub returns-then-is_normal : goal.returns-then-is_normal
returns-then-is_normal c = search read_normally

pub returns-else-is_normal : goal.returns-else-is_normal
returns-else-is_normal c = search read_otherwise
