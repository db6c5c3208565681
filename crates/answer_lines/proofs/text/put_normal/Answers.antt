-- Three texts in a row, the one in the middle that of the version that was read.
use borrow.Author.Rules.{rules}
use Rattle.answer_lines.proofs.Texts.{normal_put}
use Rattle.answer_lines.proofs.text.put_normal.Goals as goal

pub returns : goal.returns
returns c = record { wrote = search normal_put; near = search rules }
