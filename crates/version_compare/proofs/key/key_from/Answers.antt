-- `version_compare::key::key_from` meets its contract: each field by its own function.
-- Assumes nothing.
use Rattle.version_compare.proofs.key.key_from.Goals as goal

pub returns : goal.returns
returns c = cc
