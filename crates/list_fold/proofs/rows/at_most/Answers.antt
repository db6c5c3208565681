-- The comparison's answer.
use Rattle.std.proofs.Common.{rules}
use Rattle.list_fold.proofs.Tests.{rows_le}
use Rattle.list_fold.proofs.rows.at_most.Goals as goal

pub returns : goal.returns
returns c = search (rows_le, rules)
