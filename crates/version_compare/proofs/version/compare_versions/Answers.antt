-- `version_compare::version::compare_versions` meets its contract: the labels decide where nothing else does.
-- Assumes nothing.
use borrow.Author.Rules.{rules}
use Rattle.version_compare.proofs.Versions.{versions_compared}
use Rattle.version_compare.proofs.version.compare_versions.Goals as goal

pub returns : goal.returns
returns c = versions_compared _ _ _ _ _ _ c.compare_public.ensures (λ h. search rules) c.then_with.ensures
