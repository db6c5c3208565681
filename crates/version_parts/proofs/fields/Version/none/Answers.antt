-- `version_parts::fields::Version::none` meets its contract: it has no number and no segment.
-- Assumes nothing.
use Rattle.version_parts.proofs.fields.Version.none.Goals as goal

pub returns : goal.returns
returns c = cc
