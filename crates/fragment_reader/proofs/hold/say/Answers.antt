-- `fragment_reader::hold::say` meets its contract: by the count, then by the end mark.
-- Assumes nothing.
use borrow.Author.Rules.{rules}
use Rattle.fragment_reader.proofs.Answers.{too_long_said, text_said, nothing_said}
use Rattle.fragment_reader.proofs.hold.say.Goals as goal

pub returns-then-count-gt-LONGEST : goal.returns-then-count-gt-LONGEST
returns-then-count-gt-LONGEST c = search too_long_said

pub returns-then-ended : goal.returns-then-ended
returns-then-ended c = search text_said

pub returns : goal.returns
returns c = search nothing_said
