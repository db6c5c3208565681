-- `version::reading::read_from` meets its contract: one law for each way out.
-- Assumes nothing.
use Rattle.version.proofs.Readings.{read_quickly, read_refused, read_accepted}
use Rattle.version.proofs.reading.read_from.Goals as goal

pub returns-in-Some : goal.returns-in-Some
returns-in-Some c = search read_quickly

pub returns-in-Refused : goal.returns-in-Refused
returns-in-Refused c = search read_refused

pub returns : goal.returns
returns c = search read_accepted
