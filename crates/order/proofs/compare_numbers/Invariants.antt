-- What the lists have from i on compares as the lists do.
use Rattle.std.proofs.Common.{◌≡◌, drop}
use Prim.Native.Nat.{compare}
use Rattle.order.specs.Compare.{padded}
use Rattle.order.proofs.compare_numbers.Given as goal

abbrev pub invariant-loop-i : goal.invariant-loop-i
invariant-loop-i l = padded compare 0 (drop l.i l.a) (drop l.i l.b) ≡ padded compare 0 l.a l.b
