-- Three texts in a row.
use borrow.Author.Rules.{rules}
use Rattle.answer_lines.proofs.Texts.{three_put}
use Rattle.fits.proofs.answer.put_entry_refusal.Goals as goal

pub returns : goal.returns
returns c = record { wrote = search three_put; near = search rules }
