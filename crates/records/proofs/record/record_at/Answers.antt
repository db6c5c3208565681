-- `records::record::record_at` meets its contract: one law for each way out.
-- Assumes nothing.
use Rattle.records.proofs.Reading.{record_past, record_cut, record_found}
use borrow.Author.Rules.{rules}
use Rattle.records.proofs.record.record_at.Goals as goal

pub returns-then-s-at : goal.returns-then-s-at
returns-then-s-at c = record { is = search record_past; ordered = search rules; within = search rules }

pub returns-then-len-left : goal.returns-then-len-left
returns-then-len-left c = record { is = search record_found; ordered = search rules; within = search rules }

pub returns : goal.returns
returns c = record { is = search record_cut; ordered = search rules; within = search rules }
