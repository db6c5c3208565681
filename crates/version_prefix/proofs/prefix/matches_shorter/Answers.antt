-- `version_prefix::prefix::matches_shorter` meets its contract.
-- Assumes nothing.
use Rattle.version_prefix.proofs.Beginnings.{shorter_matches}
use Rattle.version_prefix.proofs.prefix.matches_shorter.Goals as goal

pub returns : goal.returns
returns c = search shorter_matches
