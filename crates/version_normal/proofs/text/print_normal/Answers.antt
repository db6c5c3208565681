-- `version_normal::text::print_normal` meets its contract.
-- Assumes nothing.
use mathlib.Core.Path.{refl}
use Rattle.version_normal.proofs.Texts.{normal_refused, normal_printed}
use Rattle.version_normal.proofs.text.print_normal.Goals as goal

pub returns-in-Refused : goal.returns-in-Refused
returns-in-Refused c = normal_refused _ _ _ c.read_version-read.ensures.is refl _ _ c.in-Refused.is

pub returns : goal.returns
returns c = search normal_printed
