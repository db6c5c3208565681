-- `records::two_bytes::two_at` meets its contract: one law for each way out.
-- Assumes nothing.
use Rattle.records.proofs.Reading.{two_past}
use borrow.Author.Rules.{rules}
use Rattle.records.proofs.two_bytes.two_at.Goals as goal

pub returns-then-s-at : goal.returns-then-s-at
returns-then-s-at c = record { is = search two_past; most = search rules }
