-- `version_parts::head::lead_end` meets its contract: one law for each way out.
-- Assumes nothing.
use borrow.Author.Rules.{rules}
use Rattle.version_parts.proofs.Heads.{lead_v, lead_plain}
use Rattle.version_parts.proofs.head.lead_end.Goals as goal

pub returns-then-lower-eq118 : goal.returns-then-lower-eq118
returns-then-lower-eq118 c = record { is = search lead_v; within = search rules }

pub returns : goal.returns
returns c = record { is = search lead_plain; within = search rules }
