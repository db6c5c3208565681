-- `version::comparing::compare_read` meets its contract: one law for each way out.
-- Assumes nothing.
use Rattle.version.proofs.Compares.{first_refused, second_refused, both_accepted}
use Rattle.version.proofs.comparing.compare_read.Goals as goal

pub returns-in-Refused : goal.returns-in-Refused
returns-in-Refused c = search first_refused

pub returns-in-Refused-verdict : goal.returns-in-Refused-verdict
returns-in-Refused-verdict c = search second_refused

pub returns : goal.returns
returns c = search both_accepted
