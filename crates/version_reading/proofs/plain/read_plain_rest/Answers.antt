-- `version_reading::plain::read_plain_rest` meets its contract.
-- Assumes nothing.
use borrow.Author.Rules.{rules}
use Rattle.version_reading.proofs.Plains.{found_filled, plain_bare, plain_star, plain_big, plain_end, plain_more}
use Rattle.version_reading.proofs.plain.read_plain_rest.Goals as goal

pub returns-then-at-s : goal.returns-then-at-s
returns-then-at-s c = record { is = search plain_bare; sound = search found_filled }

pub returns-then-beginning-ne0 : goal.returns-then-beginning-ne0
returns-then-beginning-ne0 c = record { is = search plain_star; sound = search rules }

pub returns-in_default : goal.returns-in_default
returns-in_default c = record { is = search plain_big; sound = search rules }

pub returns-then-next-s : goal.returns-then-next-s
returns-then-next-s c = record { is = search plain_end; sound = search found_filled }

pub returns : goal.returns
returns c = record { is = search plain_more; sound = search rules }
