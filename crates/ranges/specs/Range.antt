-- Ranges of cuts, and which cuts a list of ranges holds. P is any type of cuts, with any test `le` of order. A range is half open: it holds
-- the cuts from its lower end up to, and not with, its upper end. Definitions only; assumes nothing.
use Rattle.std.specs.Prelude.{List, [], ◌∷◌, Bool, false, not, ◌&&◌, ◌||◌}

-- a lower and an upper end
pub record Range (P : Type 0) : Type 0 where
  pub lo : P
  pub hi : P

module _ {P : Type 0} (le : P → P → Bool) where
  -- c lies in the stretch from lo up to hi
  abbrev pub within : P → P → P → Bool
  within lo hi c = le lo c && not (le hi c)

  -- c lies in one of the ranges
  abbrev pub mem : List (Range P) → P → Bool
  mem [] c = false
  mem (r ∷ T) c = within r.lo r.hi c || mem T c
