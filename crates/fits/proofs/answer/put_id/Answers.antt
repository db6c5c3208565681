-- At most five digits.
use borrow.Author.Rules.{rules}
use Rattle.fits.proofs.Answers.{id_put}
use Rattle.fits.proofs.answer.put_id.Goals as goal

pub returns : goal.returns
returns c = search (id_put, rules)
