-- Cuts are an order of their own, with a lowest and a highest: all that the theory of tables asks. Assumes nothing beyond the laws of the
-- comparison of values, and only where they are named.
use mathlib.Core.Path.{◌≡◌, refl}
use mathlib.Core.Bool.{true}
use Rattle.order.specs.Ordering.{Ordering, lt, eq, gt, flip, also, is_le, is_gt}
use Rattle.order.specs.Compare.{Comparison}
use Rattle.order.specs.Laws.{Laws}
use Rattle.order.specs.Preorder.{TotalPreorder, Bounded}
use Rattle.order.proofs.Ordering.{also_eq}
use Rattle.order.proofs.Numbers.{number_laws}
use Rattle.order.proofs.Combined.{by_laws, lex_laws}
use Rattle.order.proofs.Missing.{option_laws}
use Rattle.order.proofs.Preorder.{at_most_preorder}
use Rattle.ranges.specs.Cut.{Cut, bot, top, before, after, level, value, side, compare_cuts, le_cut}

module _ {X : Type 0} {cmp : Comparison X} (L : Laws cmp) where
  pub cut_laws : Laws (compare_cuts cmp)
  cut_laws = lex_laws (by_laws level number_laws) (lex_laws (by_laws value (option_laws L)) (by_laws side number_laws))

  pub cut_preorder : TotalPreorder (le_cut cmp)
  cut_preorder = at_most_preorder cut_laws

module _ {X : Type 0} (cmp : Comparison X) where
  bot_least : (c : Cut X) → le_cut cmp bot c ≡ true
  bot_least bot = refl
  bot_least (before x) = refl
  bot_least (after x) = refl
  bot_least top = refl

  top_greatest : (c : Cut X) → le_cut cmp c top ≡ true
  top_greatest bot = refl
  top_greatest (before x) = refl
  top_greatest (after x) = refl
  top_greatest top = refl

  pub cut_bounded : Bounded (le_cut cmp) bot top
  cut_bounded = record { least = bot_least; greatest = top_greatest; apart = refl }

  -- a value x is past the cut before v exactly if v is at most x
  pub past_before : (v x : X) → le_cut cmp (before v) (before x) ≡ is_le (cmp v x)
  past_before v x = rw (also_eq (cmp v x))

-- between values that differ the side does not count
after_turned : (o : Ordering) → is_le (also (flip o) gt) ≡ is_gt o
after_turned lt = refl
after_turned eq = refl
after_turned gt = refl

-- and past the cut after v exactly if it lies above v
pub past_after : {X : Type 0} {cmp : Comparison X} → Laws cmp → (v x : X) → le_cut cmp (after v) (before x) ≡ is_gt (cmp x v)
past_after {X} {cmp} L v x = rw (L.turn x v) (after_turned (cmp x v))
