-- `version_compare::plain::compare_plains` meets its contract: the keys decide where the numbers do not.
-- Assumes nothing.
use borrow.Author.Rules.{rules}
use Rattle.version_order.proofs.Keys.{keys_are}
use Rattle.version_compare.proofs.Plains.{plains_compared}
use Rattle.version_compare.proofs.plain.compare_plains.Goals as goal

pub returns : goal.returns
returns c = plains_compared _ _ _ _ c.compare_four.ensures (λ h. search (keys_are, rules)) c.then_with.ensures
