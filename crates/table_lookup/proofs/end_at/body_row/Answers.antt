-- `table_lookup::end_at::body_row` meets its contract: one law for each side.
-- Assumes nothing.
use Rattle.table_lookup.proofs.Bodies.{body_bottom, body_top, body_before, body_after}
use Rattle.table_lookup.proofs.end_at.body_row.Goals as goal

pub returns-in-Bottom : goal.returns-in-Bottom
returns-in-Bottom c = search body_bottom

pub returns-in-Top : goal.returns-in-Top
returns-in-Top c = search body_top

pub returns-in-Before : goal.returns-in-Before
returns-in-Before c = search body_before

pub returns-in-After : goal.returns-in-After
returns-in-After c = search body_after
