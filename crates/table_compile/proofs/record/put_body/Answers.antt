-- `table_compile::record::put_body` meets its contract, side by side.
-- Assumes nothing.
use Rattle.table_compile.proofs.Bodies.{body_bottom, body_top, body_before, body_after}
use borrow.Author.Rules.{rules}
use Rattle.table_compile.proofs.record.put_body.Goals as goal

pub returns-in-Bottom : goal.returns-in-Bottom
returns-in-Bottom c = record { wrote = search body_bottom; near = search rules }

pub returns-in-Top : goal.returns-in-Top
returns-in-Top c = record { wrote = search body_top; near = search rules }

pub returns-in-Before : goal.returns-in-Before
returns-in-Before c = record { wrote = search body_before; near = search rules }

pub returns-in-After : goal.returns-in-After
returns-in-After c = record { wrote = search body_after; near = search rules }
