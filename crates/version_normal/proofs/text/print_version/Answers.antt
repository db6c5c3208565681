-- `version_normal::text::print_version` meets its contract: the first run says the length, the second writes.
-- Assumes nothing.
use native.Mathlib.Omega.{arith}
use borrow.Author.Rules.{rules}
use Rattle.decimal.proofs.Puts.{short, printed}
use Rattle.version_normal.proofs.text.print_version.Goals as goal

pub returns-then-buf-need : goal.returns-then-buf-need
returns-then-buf-need c = short _ _ _ _ _ c.put_version-need.ensures (omega arith) _ c.if-buf-need.true

pub returns : goal.returns
returns c = printed _ _ _ _ _ c.put_version-need.ensures (omega arith) _ _ _ c.put_version.ensures (search rules)
