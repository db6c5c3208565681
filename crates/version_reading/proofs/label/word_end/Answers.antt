-- `version_reading::label::word_end` meets its contract.
-- Assumes nothing.
use borrow.Author.Rules.{rules}
use Rattle.version_reading.proofs.Labels.{word_is}
use Rattle.version_reading.proofs.label.word_end.Goals as goal

pub returns : goal.returns
returns c = record { is = search word_is; from = search rules; within = search rules }
