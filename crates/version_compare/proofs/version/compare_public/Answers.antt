-- `version_compare::version::compare_public` meets its contract: the keys decide where the releases do not.
-- Assumes nothing.
use borrow.Author.Rules.{rules}
use Rattle.version_order.proofs.Keys.{keys_are}
use Rattle.version_compare.proofs.Versions.{public_compared}
use Rattle.version_compare.proofs.version.compare_public.Goals as goal

pub returns : goal.returns
returns c = public_compared _ _ _ _ c.compare_release.ensures (λ h. search (keys_are, rules)) c.then_with.ensures
