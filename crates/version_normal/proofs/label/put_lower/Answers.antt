-- `version_normal::label::put_lower` meets its contract.
-- Assumes nothing.
use native.Mathlib.Omega.{arith}
use borrow.Author.Rules.{rules}
use Rattle.version_normal.proofs.Texts.{lower_out}
use Rattle.version_normal.proofs.label.put_lower.Goals as goal

pub returns-then-buf-at : goal.returns-then-buf-at
returns-then-buf-at c = record { wrote = lower_out _ _ _ _ (search rules) (omega arith) (search rules); near = search rules }
