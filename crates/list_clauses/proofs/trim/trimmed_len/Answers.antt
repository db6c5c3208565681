-- The last byte that is no blank, or none.
use Rattle.std.proofs.Common.{rules}
use Rattle.list_clauses.proofs.Trims.{LastKept, trimmed_to}
use Rattle.list_clauses.proofs.trim.trimmed_len.Goals as goal

pub returns : goal.returns
returns c =
    let found : LastKept c.args.s.now c.rposition.result = search rules in
    trimmed_to c.args.s.now c.rposition.result c.map_or.result found (search rules)
