-- The quick way's answer.
use Rattle.std.proofs.Common.{rules}
use Rattle.list_accepting.proofs.PlainClauses.{plain_candidate}
use Rattle.list_accepting.proofs.accepts.Goals as goal

pub returns : goal.returns
returns c =
    plain_candidate c.args.text.now c.read_plain.result c.in-Some.plain (search rules) (search rules) c.args.list.now c.accept_plain.result
    c.map_err.result (search rules) c.map_err.ensures.cases
