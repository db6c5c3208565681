-- The ways of the functions that compare ends: by level, then by row, then by side. Ends compare as their places do.
-- Assumes nothing.
use Rattle.std.specs.Prelude.{Option, None, Some}
use mathlib.Core.Path.{◌≡◌, refl, sym, ◌∙◌}
use mathlib.Core.Bool.{Bool, true, false, not, ◌||◌}
use mathlib.Core.List.{List}
use Prim.Native.Nat.{ℕ, compare}
use native.Mathlib.Omega.{arith}
use lib.Dec.{leb}
use Rattle.order.specs.Ordering.{Ordering, lt, eq, gt, is_le, also}
use Rattle.std.specs.declared.cmp.Ordering.{Ordering as Order}
use Rattle.std.specs.declared.cmp.Ordering.TheVariants.{Less, Equal, Greater}
use Rattle.order.specs.Answer.{name_of}
use Rattle.order.specs.Compare.{padded, option}
use Rattle.order.proofs.Ordering.{also_decided}
use Rattle.order.proofs.Numbers.{compare_means, compare_is}
use Rattle.ranges.specs.Cut.{bot, top, before, after, level, value, side}
use Rattle.ranges.specs.Range.{within}
use Rattle.version_reading.specs.Value.{Value}
use Rattle.version_order.specs.Versions.{compare_public}
use Rattle.version_rows.specs.Row.{row_of}
use Rattle.version_rows.proofs.Compared.{rows_compare}
use Rattle.list_ends.specs.declared.end.Side.{Side}
use Rattle.list_ends.specs.declared.end.Side.TheVariants.{Bottom, Top, Before, After}
use Rattle.list_ends.specs.Cut.{Place, le_place}
use Rattle.list_ends.specs.End.{level_of, side_of}
use Rattle.table_lookup.specs.Rows.{RowPlace, le_row, at_row, rowed, HasRoom, RowsOf}

-- the level and the side of a place are those of its end
level_is : (s : Side) (row : List ℕ) → level_of s ≡ level (at_row s row)
level_is Bottom row = refl
level_is Top row = refl
level_is Before row = refl
level_is After row = refl

side_is : (s : Side) (row : List ℕ) → side_of s ≡ side (at_row s row)
side_is Bottom row = refl
side_is Top row = refl
side_is Before row = refl
side_is After row = refl

-- below all and above all have no row and no side
outer : (x : RowPlace) → (level x ≡ 1 → ⊥) → (value x ≡ None) × (side x ≡ 0)
outer bot h = (refl, refl)
outer top h = (refl, refl)
outer (before row) h = absurd (h refl)
outer (after row) h = absurd (h refl)

at_version : (s : Side) (row : List ℕ) → level (at_row s row) ≡ 1 → value (at_row s row) ≡ Some row
at_version Bottom row h = absurd (omega arith)
at_version Top row h = absurd (omega arith)
at_version Before row h = refl
at_version After row h = refl

answer : (q : Order) (o p : Ordering) → q ≡ name_of o → q ≡ name_of p → o ≡ p
answer q lt lt e f = refl
answer q lt eq e f = cc
answer q lt gt e f = cc
answer q eq lt e f = cc
answer q eq eq e f = refl
answer q eq gt e f = cc
answer q gt lt e f = cc
answer q gt eq e f = cc
answer q gt gt e f = refl

-- what stands after the levels in the comparison
abbrev inner : RowPlace → RowPlace → Ordering
inner x y = also (option (padded compare 0) (value x) (value y)) (compare (side x) (side y))

-- the ways of `at_most`
module _ (a b : Side) (v w : List ℕ) (m n : ℕ) (e : m ≡ level_of a) (f : n ≡ level_of b) where
  low : m ≡ level (at_row a v)
  low = e ∙ level_is a v

  high : n ≡ level (at_row b w)
  high = f ∙ level_is b w

  pub levels_decide : (m ≡ n → ⊥) → leb m n ≡ le_row (at_row a v) (at_row b w)
  levels_decide h = rw (← low, ← high, also_decided (compare m n) (inner (at_row a v) (at_row b w)) differ)
    where
      differ : compare m n ≡ eq → ⊥
      differ g = h (rw g at (compare_means m n))

  module _ (g : m ≡ n) where
    same_level : le_row (at_row a v) (at_row b w) ≡ is_le (inner (at_row a v) (at_row b w))
    same_level = rw (← low, ← high, compare_is eq m n g)

    pub no_versions : (m ≡ 1 → ⊥) → true ≡ le_row (at_row a v) (at_row b w)
    no_versions h =
        let one = outer (at_row a v) (λ k. h (low ∙ k)) in
        let other = outer (at_row b w) (λ k. h (g ∙ high ∙ k)) in
        rw (same_level, one.0, one.1, other.0, other.1)

    -- both stand at versions, and q is how their rows compare
    module _ (h : m ≡ 1) (q : Order) (k : q ≡ name_of (padded compare 0 v w)) where
      by_row : le_row (at_row a v) (at_row b w) ≡ is_le (also (padded compare 0 v w) (compare (side (at_row a v)) (side (at_row b w))))
      by_row = rw (same_level, at_version a v (sym low ∙ h), at_version b w (sym high ∙ sym g ∙ h))

      pub row_below : q ≡ Less → true ≡ le_row (at_row a v) (at_row b w)
      row_below l = rw (by_row, answer q (padded compare 0 v w) lt k l)

      pub row_above : q ≡ Greater → false ≡ le_row (at_row a v) (at_row b w)
      row_above l = rw (by_row, answer q (padded compare 0 v w) gt k l)

      pub by_side : (s t : ℕ) → q ≡ Equal → s ≡ side_of a → t ≡ side_of b → leb s t ≡ le_row (at_row a v) (at_row b w)
      by_side s t l i j = rw (by_row, answer q (padded compare 0 v w) eq k l, i ∙ side_is a v, j ∙ side_is b w)

-- the ways of `held_between`
module _ (earlier : Bool) (lo hi c : RowPlace) (none_yet : earlier ≡ false) (r : Bool) (e : r ≡ le_row lo c) where
  pub held_here : (q : Bool) → r ≡ true → q ≡ le_row hi c → not q ≡ earlier || within le_row lo hi c
  held_here q f g = rw (none_yet, ← e, f, g)

  pub held_not : r ≡ false → false ≡ earlier || within le_row lo hi c
  held_not f = rw (none_yet, ← e, f)

-- a place with rows compares as the place does
level_rowed : (p : Place) → level (rowed p) ≡ level p
level_rowed bot = refl
level_rowed top = refl
level_rowed (before v) = refl
level_rowed (after v) = refl

side_rowed : (p : Place) → side (rowed p) ≡ side p
side_rowed bot = refl
side_rowed top = refl
side_rowed (before v) = refl
side_rowed (after v) = refl

abbrev row_in : Option Value → Option (List ℕ)
row_in None = None
row_in (Some v) = Some (row_of v)

value_rowed : (p : Place) → value (rowed p) ≡ row_in (value p)
value_rowed bot = refl
value_rowed top = refl
value_rowed (before v) = refl
value_rowed (after v) = refl

values_compare : (x y : Option Value) → HasRoom x → HasRoom y → option (padded compare 0) (row_in x) (row_in y) ≡ option compare_public x y
values_compare None None h k = refl
values_compare None (Some w) h k = refl
values_compare (Some v) None h k = refl
values_compare (Some v) (Some w) h k = rows_compare v w h k

pub rows_le : (p q : Place) (a b : RowPlace) → RowsOf p a → RowsOf q b → le_row a b ≡ le_place p q
rows_le p q a b f g =
    rw (
      f.is,
      g.is,
      level_rowed p,
      level_rowed q,
      side_rowed p,
      side_rowed q,
      value_rowed p,
      value_rowed q,
      values_compare (value p) (value q) f.few g.few,
    )
