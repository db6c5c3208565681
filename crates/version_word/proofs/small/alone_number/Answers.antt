-- `version_word::small::alone_number` meets its contract: one law for each way out.
-- Assumes nothing.
use borrow.Author.Rules.{rules}
use Rattle.version_word.proofs.Parts.{suffix_large, suffix_fits}
use Rattle.version_word.proofs.small.alone_number.Goals as goal

pub returns-then-n-gt2097151 : goal.returns-then-n-gt2097151
returns-then-n-gt2097151 c = record { is = search suffix_large; within = search rules }

pub returns : goal.returns
returns c = record { is = search suffix_fits; within = search rules }
