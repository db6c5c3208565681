-- The way out with two identifiers.
use borrow.Author.Rules.{rules}
use Rattle.fits.proofs.Answers.{lowest_two}
use Rattle.fits.proofs.answer.put_lowest.Goals as goal

pub returns-in-Two : goal.returns-in-Two
returns-in-Two c = search (lowest_two, rules)
