-- `version_compare::version::compare_release` meets its contract: the parts that count decide where the epochs do not.
-- Assumes nothing.
use borrow.Author.Rules.{rules}
use Rattle.version_compare.proofs.Counts.{release_compared}
use Rattle.version_compare.proofs.version.compare_release.Goals as goal

pub returns : goal.returns
returns c =
    release_compared _ _ _ _ _ _ (search rules) (search rules) c.min.ensures c.min-2.ensures c.cmp.ensures (λ h. search rules)
    c.then_with.ensures
