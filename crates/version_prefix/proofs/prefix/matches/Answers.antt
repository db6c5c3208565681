-- `version_prefix::prefix::matches` meets its contract.
-- Assumes nothing.
use Rattle.version_prefix.proofs.Beginnings.{whole_matches}
use Rattle.version_prefix.proofs.prefix.matches.Goals as goal

pub returns : goal.returns
returns c = search whole_matches
