-- `list_accepting::plain_holds::holds_plain` meets its contract: one law for each operator.
-- Assumes nothing.
use Rattle.list_accepting.proofs.Holding.{named_le, named_eq, named_ne, named_ge, named_lt, named_gt, by_equal, by_unlike, by_compatible, by_at_most, by_at_least, by_below, by_above}
use Rattle.list_accepting.proofs.plain_holds.holds_plain.Goals as goal

pub returns-in-Equal : goal.returns-in-Equal
returns-in-Equal c = search (by_equal, named_eq)

pub returns-in-NotEqual : goal.returns-in-NotEqual
returns-in-NotEqual c = search (by_unlike, named_ne)

pub returns-in-Compatible : goal.returns-in-Compatible
returns-in-Compatible c = search by_compatible

pub returns-in-AtMost : goal.returns-in-AtMost
returns-in-AtMost c = search (by_at_most, named_le)

pub returns-in-AtLeast : goal.returns-in-AtLeast
returns-in-AtLeast c = search (by_at_least, named_ge)

pub returns-in-Below : goal.returns-in-Below
returns-in-Below c = search (by_below, named_lt)

pub returns-in-Above : goal.returns-in-Above
returns-in-Above c = search (by_above, named_gt)
