-- `version_reading::text::read_end` meets its contract.
-- Assumes nothing.
use borrow.Author.Rules.{rules}
use Rattle.chars.proofs.Cases.{cases}
use Rattle.chars.proofs.Parts.{take_rest}
use Rattle.version_reading.specs.Reading.{after_suffix}
use Rattle.version_reading.proofs.text.read_end.Goals as goal

pub returns-in_err-local : goal.returns-in_err-local
unfolding after_suffix
returns-in_err-local c = search rules

pub returns-then-end-s : goal.returns-then-end-s
unfolding after_suffix
returns-then-end-s c = search (rules, cases, take_rest)

pub returns : goal.returns
unfolding after_suffix
returns c = search (rules, cases, take_rest)
