-- One law for each way out.
use Rattle.std.proofs.Common.{rules}
use Rattle.table_lookup.proofs.Rising.{end_unsaid, end_low, end_judged}
use Rattle.table_lookup.proofs.end_at.end_above.Goals as goal

pub returns-then-not-body_row : goal.returns-then-not-body_row
returns-then-not-body_row c = search (end_unsaid, rules)

pub returns-then-not-is_above : goal.returns-then-not-is_above
returns-then-not-is_above c = search (end_low, rules)

pub returns : goal.returns
returns c = search (end_judged, rules)
