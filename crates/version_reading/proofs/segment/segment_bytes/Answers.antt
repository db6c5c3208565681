-- `version_reading::segment::segment_bytes` meets its contract.
-- Assumes nothing.
use borrow.Author.Rules.{rules}
use Rattle.chars.proofs.Cases.{cases}
use Rattle.version_reading.specs.Segment.{segment_bytes}
use Rattle.version_reading.proofs.segment.segment_bytes.Goals as goal

pub returns-then-local-i : goal.returns-then-local-i
unfolding segment_bytes
returns-then-local-i c = record { is = search cases; short = search rules }

pub returns-then-i-ge16 : goal.returns-then-i-ge16
unfolding segment_bytes
returns-then-i-ge16 c = record { is = search cases; short = search rules }

pub returns : goal.returns
unfolding segment_bytes
returns c = record { is = search cases; short = search rules }
