-- The six shapes over one value accept what the six comparisons say of the answer for x and v. Assumes nothing beyond the laws of the
-- comparison of values.
use mathlib.Core.Path.{◌≡◌, refl, ap}
use mathlib.Core.Bool.{not, ◌&&◌, and-true, not-not}
use Rattle.order.specs.Ordering.{Ordering, lt, eq, gt, is_le, compare_is_eq, is_ge, is_lt, is_gt}
use Rattle.order.specs.Compare.{Comparison}
use Rattle.order.specs.Laws.{Laws}
use Rattle.order.proofs.Derived.{reflexive}
use Rattle.ranges.specs.Shape.{accepts, Proper}
use Rattle.ranges.specs.Cut.{before, le_cut}
use Rattle.ranges.specs.Plain.{equal_to, other_than, up_to, from, below, above}
use Rattle.ranges.proofs.Cuts.{past_before, past_after}

neither_way : (o : Ordering) → is_ge o && not (is_gt o) ≡ compare_is_eq o
neither_way lt = refl
neither_way eq = refl
neither_way gt = refl

module _ {X : Type 0} {cmp : Comparison X} (L : Laws cmp) (v x : X) where
  pub accepts_equal_to : accepts (le_cut cmp) (equal_to v) (before x) ≡ compare_is_eq (cmp x v)
  accepts_equal_to = rw (past_before cmp v x, past_after L v x, L.turn x v) (neither_way (cmp x v))

  pub accepts_other_than : accepts (le_cut cmp) (other_than v) (before x) ≡ not (compare_is_eq (cmp x v))
  accepts_other_than = ap not accepts_equal_to

  pub accepts_up_to : accepts (le_cut cmp) (up_to v) (before x) ≡ is_le (cmp x v)
  accepts_up_to = rw (past_after L v x) (not-not (is_le (cmp x v)))

  pub accepts_from : accepts (le_cut cmp) (from v) (before x) ≡ is_ge (cmp x v)
  accepts_from = rw (past_before cmp v x, L.turn x v) (and-true (is_ge (cmp x v)))

  pub accepts_below : accepts (le_cut cmp) (below v) (before x) ≡ is_lt (cmp x v)
  accepts_below = rw (past_before cmp v x, L.turn x v)

  pub accepts_above : accepts (le_cut cmp) (above v) (before x) ≡ is_gt (cmp x v)
  accepts_above = rw (past_after L v x) (and-true (is_gt (cmp x v)))

-- the one hole among the six is not empty
pub other_than_proper : {X : Type 0} {cmp : Comparison X} → Laws cmp → (v : X) → Proper (le_cut cmp) (other_than v)
other_than_proper L v = rw (reflexive L v)
