-- `version_parts::head::read_release` meets its contract.
-- Assumes nothing.
use borrow.Author.Rules.{rules}
use Rattle.version_parts.proofs.AtPlaces.{refused_within}
use Rattle.version_parts.proofs.Joined.{handed_on}
use Rattle.version_parts.proofs.Heads.{release_done, release_big, release_full, release_more}
use Rattle.version_parts.proofs.head.read_release.Goals as goal

pub returns-in_err-n : goal.returns-in_err-n
returns-in_err-n c =
    rw (handed_on c.from_residual.result c.in_err-n.field-0.0 c.from_residual.ensures.1)
    (record { is = search (release_big, c.in_err-n.was); within = search (refused_within, c.in_err-n.was); few = search rules })

pub returns-then-release-eq16 : goal.returns-then-release-eq16
returns-then-release-eq16 c = search (rules, release_full)

pub loop-n-preserved : goal.loop-n-preserved
loop-n-preserved c = search (rules, release_more)

pub returns : goal.returns
returns c = search (rules, release_done)
