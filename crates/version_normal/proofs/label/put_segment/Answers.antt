-- `version_normal::label::put_segment` meets its contract.
-- Assumes nothing.
use borrow.Author.Rules.{rules}
use Rattle.version_normal.proofs.Texts.{number_there, text_there}
use Rattle.version_normal.proofs.label.put_segment.Goals as goal

pub returns-in-Number : goal.returns-in-Number
returns-in-Number c = record { wrote = search number_there; near = search rules }

pub returns-in-Text : goal.returns-in-Text
returns-in-Text c = record { wrote = search text_there; near = search rules }
