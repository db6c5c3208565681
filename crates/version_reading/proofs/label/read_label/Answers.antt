-- `version_reading::label::read_label` meets its contract: one law for each way out.
-- Assumes nothing.
use borrow.Author.Rules.{rules}
use Rattle.chars.proofs.Cases.{cases}
use Rattle.version_reading.specs.Label.{label_at}
use Rattle.version_reading.proofs.Labels.{label_none}
use Rattle.version_reading.proofs.label.read_label.Goals as goal

pub returns-then-byte_at-eq43 : goal.returns-then-byte_at-eq43
unfolding label_at
returns-then-byte_at-eq43 c = record { is = search cases; within = search rules; few = search rules }

pub returns : goal.returns
unfolding label_at
returns c = record { is = search label_none; within = search rules; few = search rules }
