-- `version_word::text::word` meets its contract: one law for each way out.
-- Assumes nothing.
use Rattle.version_word.proofs.Texts.{plain_answer, refused_answer, read_answer}
use Rattle.version_word.proofs.text.word.Goals as goal

pub returns-in-Some : goal.returns-in-Some
returns-in-Some c = search plain_answer

pub returns-in-Refused : goal.returns-in-Refused
returns-in-Refused c = search refused_answer

pub returns : goal.returns
returns c = search read_answer
