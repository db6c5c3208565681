-- The first end, and one after another.
use Rattle.std.proofs.Common.{rules}
use Rattle.table_lookup.proofs.Rising.{above_last, above_none}
use Rattle.table_lookup.proofs.end_at.is_above.Goals as goal

pub returns-in-None : goal.returns-in-None
returns-in-None c = search (above_none, rules)

pub returns-in-Some : goal.returns-in-Some
returns-in-Some c = search (above_last, rules)
