-- `list_accepting::plain::find_pattern` meets its contract: one law for each way out.
-- Assumes nothing.
use Rattle.list_accepting.proofs.PlainClauses.{pattern_found}
use Rattle.list_accepting.proofs.plain.find_pattern.Goals as goal

pub returns : goal.returns
returns c = search (pattern_found, c.in_ok-plain.was)
