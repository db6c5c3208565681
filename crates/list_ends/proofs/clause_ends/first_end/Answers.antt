-- `list_ends::clause_ends::first_end` meets its contract: one case for each operator.
-- Assumes nothing.
use Rattle.list_ends.proofs.Given.{first_by, made_bottom}
use Rattle.list_ends.proofs.clause_ends.first_end.Goals as goal

pub returns-in-Equal : goal.returns-in-Equal
returns-in-Equal c = search first_by

pub returns-in-NotEqual : goal.returns-in-NotEqual
returns-in-NotEqual c = search first_by

pub returns-in-Compatible : goal.returns-in-Compatible
returns-in-Compatible c = search first_by

pub returns-in-AtMost : goal.returns-in-AtMost
returns-in-AtMost c = search (first_by, made_bottom)

pub returns-in-AtLeast : goal.returns-in-AtLeast
returns-in-AtLeast c = search first_by

pub returns-in-Below : goal.returns-in-Below
returns-in-Below c = search (first_by, made_bottom)

pub returns-in-Above : goal.returns-in-Above
returns-in-Above c = search first_by
