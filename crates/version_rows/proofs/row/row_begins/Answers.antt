-- `version_rows::row::row_begins`: the part of the prefix that counts.
use Rattle.version_rows.proofs.Begun.{begun}
use Rattle.version_rows.proofs.row.row_begins.Goals as goal

pub returns : goal.returns
returns c = search begun
