-- `version_reading::text::read_wildcard` meets its contract.
-- Assumes nothing.
use borrow.Author.Rules.{rules}
use Rattle.chars.proofs.Cases.{cases}
use Rattle.version_reading.specs.Reading.{starred}
use Rattle.version_reading.proofs.text.read_wildcard.Goals as goal

pub returns-then-not-wildcards : goal.returns-then-not-wildcards
unfolding starred
returns-then-not-wildcards c = record { is = search cases; few = search rules; short = search rules; near = search rules }

pub returns-then-head-s : goal.returns-then-head-s
unfolding starred
returns-then-head-s c = record { is = search cases; few = search rules; short = search rules; near = search rules }

pub returns : goal.returns
unfolding starred
returns c = record { is = rw c.none.ensures.is (search cases); few = search rules; short = search rules; near = search rules }
