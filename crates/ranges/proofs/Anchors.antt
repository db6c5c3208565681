-- Worked tables, by computation: they anchor the definitions. The values are lists of numbers, the shorter padded with zeros, so that 4.2
-- and 4.2.0 are equal in order and yet told apart. Assumes nothing.
use Rattle.std.specs.Prelude.{None}
use mathlib.Core.Path.{◌≡◌, refl}
use mathlib.Core.List.{List, [], ◌∷◌}
use mathlib.Core.Bool.{Bool, true, false, true≢false}
use Prim.Native.Nat.{ℕ, compare}
use Rattle.order.specs.Compare.{padded}
use Rattle.ranges.specs.Range.{Range, mem}
use Rattle.ranges.specs.Shape.{Shape, hole}
use Rattle.ranges.specs.Compile.{table}
use Rattle.ranges.specs.Table.{Asc}
use Rattle.ranges.specs.Cut.{Cut, bot, top, before, after, le_cut}
use Rattle.ranges.specs.Plain.{equal_to, other_than, up_to, from, below, above}

abbrev pub le : Cut (List ℕ) → Cut (List ℕ) → Bool
le = le_cut (padded compare 0)

abbrev pub made : List (Shape (Cut (List ℕ))) → List (Range (Cut (List ℕ)))
made ss = table le bot top ss

infix 68 ◌to◌
abbrev pub ◌to◌ : Cut (List ℕ) → Cut (List ℕ) → Range (Cut (List ℕ))
a to b = record { lo = a; hi = b }

-- no clause
pub all_is_accepted : made [] ≡ bot to top ∷ []
all_is_accepted = refl

-- >=4.2, !=4.3
pub hole_leaves_both_sides : made (from (4 ∷ 2 ∷ []) ∷ other_than (4 ∷ 3 ∷ []) ∷ [])
    ≡ before (4 ∷ 2 ∷ []) to before (4 ∷ 3 ∷ []) ∷ after (4 ∷ 3 ∷ []) to top ∷ []
hole_leaves_both_sides = refl

-- >=4.2, >=4.2.0, <5.0, <5
pub first_of_equal_ends_stands : made (from (4 ∷ 2 ∷ []) ∷ from (4 ∷ 2 ∷ 0 ∷ []) ∷ below (5 ∷ 0 ∷ []) ∷ below (5 ∷ []) ∷ [])
    ≡ before (4 ∷ 2 ∷ []) to before (5 ∷ 0 ∷ []) ∷ []
first_of_equal_ends_stands = refl

-- >4, <=4
pub empty_range_goes : made (above (4 ∷ []) ∷ up_to (4 ∷ []) ∷ []) ≡ []
empty_range_goes = refl

-- two holes that meet, given in either order, are one gap
pub holes_that_meet : made (hole (before (5 ∷ [])) (before (6 ∷ [])) ∷ hole (before (4 ∷ [])) (before (5 ∷ [])) ∷ [])
    ≡ bot to before (4 ∷ []) ∷ before (6 ∷ []) to top ∷ []
holes_that_meet = refl

-- a hole with no end leaves one side
pub hole_without_end : made (hole (before (4 ∷ [])) top ∷ []) ≡ bot to before (4 ∷ []) ∷ []
hole_without_end = refl

-- ==4 holds 4.0, and !=4 does not
pub equal_is_held : mem le (made (equal_to (4 ∷ []) ∷ [])) (before (4 ∷ 0 ∷ [])) ≡ true
equal_is_held = refl

pub equal_is_kept_out : mem le (made (other_than (4 ∷ []) ∷ [])) (before (4 ∷ 0 ∷ [])) ≡ false
equal_is_kept_out = refl

-- ranges that touch are no table
pub touching_is_refused : Asc le None (bot to before (4 ∷ []) ∷ before (4 ∷ []) to top ∷ []) → ⊥
touching_is_refused a = true≢false a.2.0
