-- `fragment_reader::lent::take` meets its contract: after the end mark nothing is taken, and before it the lump is held.
-- Assumes nothing.
use borrow.Author.Rules.{rules}
use Rattle.fragment_reader.proofs.Bytes.{count_near}
use Rattle.fragment_reader.proofs.Lending.{settled_behind, lent_behind, settled_before, lent_before}
use Rattle.fragment_reader.proofs.lent.take.Goals as goal

pub put_mark-requires : goal.put_mark-requires
put_mark-requires c = search count_near

pub returns-then-ended_in : goal.returns-then-ended_in
returns-then-ended_in c = search (settled_behind, lent_behind)

pub returns : goal.returns
returns c = search (settled_before, lent_before, rules)
