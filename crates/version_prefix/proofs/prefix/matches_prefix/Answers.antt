-- `version_prefix::prefix::matches_prefix` meets its contract: one law for each way out.
-- Assumes nothing.
use Rattle.version_prefix.proofs.Beginnings.{epochs_differ, epochs_agree}
use Rattle.version_prefix.proofs.prefix.matches_prefix.Goals as goal

pub returns-then-v-w : goal.returns-then-v-w
returns-then-v-w c = search epochs_differ

pub returns : goal.returns
returns c = search epochs_agree
