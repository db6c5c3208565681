-- `version_rows::row::row_of`: the numbers that count stand over the zeros.
use Rattle.std.proofs.Common.{rules}
use Rattle.version_rows.proofs.Filled.{row_filled}
use Rattle.version_rows.proofs.row.row_of.Goals as goal

pub returns : goal.returns
returns c = search (rules, row_filled)
