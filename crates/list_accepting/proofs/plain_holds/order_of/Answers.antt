-- `list_accepting::plain_holds::order_of` meets its contract.
-- Assumes nothing.
use Rattle.list_accepting.proofs.PlainHolding.{plain_order}
use Rattle.list_accepting.proofs.plain_holds.order_of.Goals as goal

pub returns : goal.returns
returns c = search plain_order
