-- Four texts in a row.
use borrow.Author.Rules.{rules}
use Rattle.fits.proofs.Answers.{four_put}
use Rattle.fits.proofs.answer.put_several.Goals as goal

pub returns : goal.returns
returns c = record { wrote = search four_put; near = search rules }
