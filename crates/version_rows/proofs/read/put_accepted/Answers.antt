-- `version_rows::read::put_accepted` meets its contract: by the verdict.
-- Assumes nothing.
use Rattle.version_rows.proofs.ReadRows.{accepted_put, refused_kept}
use Rattle.version_rows.proofs.read.put_accepted.Goals as goal

pub returns-in-Accepted : goal.returns-in-Accepted
returns-in-Accepted c = search accepted_put

pub returns-in_default : goal.returns-in_default
returns-in_default c = search refused_kept
