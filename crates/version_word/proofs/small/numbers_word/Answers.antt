-- `version_word::small::numbers_word` meets its contract: one law for each way out.
-- Assumes nothing.
use borrow.Author.Rules.{rules}
use Rattle.version_word.proofs.Parts.{first_large, second_large, third_large, fourth_large, numbers_fit}
use Rattle.version_word.proofs.small.numbers_word.Goals as goal

pub returns-then-first-gt65535 : goal.returns-then-first-gt65535
returns-then-first-gt65535 c = record { is = search first_large; within = search rules }

pub returns-then-second-gt255 : goal.returns-then-second-gt255
returns-then-second-gt255 c = record { is = search second_large; within = search rules }

pub returns-then-third-gt255 : goal.returns-then-third-gt255
returns-then-third-gt255 c = record { is = search third_large; within = search rules }

pub returns-then-fourth-gt255 : goal.returns-then-fourth-gt255
returns-then-fourth-gt255 c = record { is = search fourth_large; within = search rules }

pub returns : goal.returns
returns c = record { is = search numbers_fit; within = search rules }
