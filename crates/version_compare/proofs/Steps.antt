-- One comparison after another, as the code makes them: a difference is the answer, and where there is none the next one answers.
-- Assumes nothing.
use mathlib.Core.Path.{◌≡◌, refl}
use Rattle.order.specs.Ordering.{Ordering, lt, eq, gt, also}
use Rattle.std.specs.declared.cmp.Ordering.{Ordering as Order}
use Rattle.std.specs.declared.cmp.Ordering.TheVariants.{Equal}
use Rattle.order.specs.Answer.{name_of}

-- what is known in the `else` of `let Order::Equal = r`
abbrev pub Differs : Order → Type 0
Differs r = r ≡ Equal → ⊥

not_equal : Differs Equal → ⊥
not_equal d = d refl

pub decided : (r : Order) (o p : Ordering) → r ≡ name_of o → Differs r → r ≡ name_of (also o p)
decided r lt p e d = e
decided r eq p e d = absurd (not_equal (rw e at d))
decided r gt p e d = e

pub same : (r : Order) (o : Ordering) → r ≡ name_of o → r ≡ Equal → o ≡ eq
same r lt e f = cc
same r eq e f = refl
same r gt e f = cc
