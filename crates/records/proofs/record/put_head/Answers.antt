-- `records::record::put_head` meets its contract: two numbers in a row.
-- Assumes nothing.
use Rattle.decimal.proofs.Puts.{then}
use borrow.Author.Rules.{rules}
use Rattle.records.proofs.record.put_head.Goals as goal

pub returns : goal.returns
returns c = record { wrote = search (rules, then); near = search rules }
