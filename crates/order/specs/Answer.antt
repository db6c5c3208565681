-- The code's names for the three answers. Definitions only; assumes nothing.
use Rattle.order.specs.Ordering.{Ordering, lt, eq, gt}
use Rattle.std.specs.declared.cmp.Ordering.{Ordering as Order}
use Rattle.std.specs.declared.cmp.Ordering.TheVariants.{Less, Equal, Greater}

-- the value of the enum `Order` that stands for an answer
abbrev pub name_of : Ordering → Order
name_of lt = Less
name_of eq = Equal
name_of gt = Greater
