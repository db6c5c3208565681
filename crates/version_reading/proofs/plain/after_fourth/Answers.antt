-- `version_reading::plain::after_fourth` meets its contract.
-- Assumes nothing.
use mathlib.Core.Path.{refl}
use borrow.Author.Rules.{rules}
use Rattle.version_reading.specs.Plain.{Filled, after_fourth}
use Rattle.version_reading.proofs.plain.after_fourth.Goals as goal

pub returns-in-Ok-None : goal.returns-in-Ok-None
unfolding after_fourth
returns-in-Ok-None c = record { is = search rules; sound = record { within = search rules; few = search rules; filled = Filled.four refl } }

pub returns-in-Ok-Some : goal.returns-in-Ok-Some
unfolding after_fourth
returns-in-Ok-Some c = search rules

pub returns-in-Err : goal.returns-in-Err
unfolding after_fourth
returns-in-Err c = search rules
