-- The ways out that the check does not find.
use borrow.Author.Rules.{rules}
use Rattle.lookup.proofs.Answers.{answer_yes, answer_no, answer_table}
use Rattle.lookup.proofs.answer.put_answer.Goals as goal

pub returns-in-Ok-true : goal.returns-in-Ok-true
returns-in-Ok-true c = search answer_yes

pub returns-in-Ok-false : goal.returns-in-Ok-false
returns-in-Ok-false c = search answer_no

pub returns-in-Err-First : goal.returns-in-Err-First
returns-in-Err-First c = search (answer_table, rules)
