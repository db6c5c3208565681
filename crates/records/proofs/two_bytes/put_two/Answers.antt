-- `records::two_bytes::put_two` meets its contract: two bytes in a row.
-- Assumes nothing.
use Rattle.records.proofs.Writing.{two_put}
use borrow.Author.Rules.{rules}
use Rattle.records.proofs.two_bytes.put_two.Goals as goal

pub returns : goal.returns
returns c = record { wrote = search two_put; near = search rules }
