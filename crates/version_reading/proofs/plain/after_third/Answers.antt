-- `version_reading::plain::after_third` meets its contract.
-- Assumes nothing.
use mathlib.Core.Path.{refl}
use borrow.Author.Rules.{rules}
use Rattle.version_reading.specs.Plain.{Filled, after_third}
use Rattle.version_reading.proofs.plain.after_third.Goals as goal

pub returns-in-Ok-None : goal.returns-in-Ok-None
unfolding after_third
returns-in-Ok-None c = record { is = search rules; sound = record { within = search rules; few = search rules; filled = Filled.three refl refl } }

pub returns-in-Ok-Some : goal.returns-in-Ok-Some
unfolding after_third
returns-in-Ok-Some c = search rules

pub returns-in-Err : goal.returns-in-Err
unfolding after_third
returns-in-Err c = search rules
