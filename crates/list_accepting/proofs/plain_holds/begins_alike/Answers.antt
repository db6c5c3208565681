-- `list_accepting::plain_holds::begins_alike` meets its contract: one law for each way out.
-- Assumes nothing.
use Rattle.list_accepting.proofs.PlainHolding.{alike_none, differ_first, alike_one, differ_second, alike_two, differ_third, alike_three}
use Rattle.list_accepting.proofs.plain_holds.begins_alike.Goals as goal

pub returns-then-count-le1 : goal.returns-then-count-le1
returns-then-count-le1 c = search alike_none

pub returns-then-v-w : goal.returns-then-v-w
returns-then-v-w c = search differ_first

pub returns-then-count-eq2 : goal.returns-then-count-eq2
returns-then-count-eq2 c = search alike_one

pub returns-then-v-w-2 : goal.returns-then-v-w-2
returns-then-v-w-2 c = search differ_second

pub returns-then-count-eq3 : goal.returns-then-count-eq3
returns-then-count-eq3 c = search alike_two

pub returns-then-v-w-3 : goal.returns-then-v-w-3
returns-then-v-w-3 c = search differ_third

pub returns : goal.returns
returns c = search alike_three
