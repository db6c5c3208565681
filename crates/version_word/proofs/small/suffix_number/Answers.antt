-- `version_word::small::suffix_number` meets its contract: one law for each way out.
-- Assumes nothing.
use borrow.Author.Rules.{rules}
use Rattle.version_word.proofs.Parts.{by_pre, by_post, by_dev, by_none}
use Rattle.version_word.proofs.small.suffix_number.Goals as goal

pub returns-in-Some : goal.returns-in-Some
returns-in-Some c = record { is = search by_pre; within = search rules }

pub returns-in-Some-post : goal.returns-in-Some-post
returns-in-Some-post c = record { is = search by_post; within = search rules }

pub returns-in-Some-dev : goal.returns-in-Some-dev
returns-in-Some-dev c = record { is = search by_dev; within = search rules }

pub returns : goal.returns
returns c = record { is = search by_none; within = search rules }
