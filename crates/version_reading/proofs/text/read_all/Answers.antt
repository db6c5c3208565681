-- `version_reading::text::read_all` meets its contract.
-- Assumes nothing.
use borrow.Author.Rules.{rules}
use Rattle.chars.proofs.Cases.{cases}
use Rattle.version_reading.specs.Reading.{pattern_as}
use Rattle.version_reading.proofs.Wholes.{whole_star, whole_rest, star_ends}
use Rattle.version_reading.proofs.text.read_all.Goals as goal

pub returns-then-s-gt1024 : goal.returns-then-s-gt1024
unfolding pattern_as
returns-then-s-gt1024 c = search (rules, cases)

pub returns-in_err-head : goal.returns-in_err-head
unfolding pattern_as
returns-in_err-head c = search (rules, cases)

pub read_wildcard-requires : goal.read_wildcard-requires
read_wildcard-requires c = (search (star_ends, c.in_ok-head.was), search rules, search rules)

pub returns-then-beginning-ne0 : goal.returns-then-beginning-ne0
returns-then-beginning-ne0 c = record { is = search (whole_star, c.in_ok-head.was); few = search rules; short = search rules; near = search rules }

pub returns : goal.returns
returns c = record { is = search (whole_rest, c.in_ok-head.was); few = search rules; short = search rules; near = search rules }
