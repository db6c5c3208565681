-- What is asked of a table, whoever made it, and what is said of tables besides. Definitions only; assumes nothing.
use Rattle.std.specs.Prelude.{◌≡◌, List, [], ◌∷◌, map, Bool, true, false, cond, ◌&&◌, ◌⊎◌, Option, None, Some}
use Rattle.order.specs.All.{All}
use Rattle.ranges.specs.Range.{Range, mem}
use Rattle.ranges.specs.Shape.{Shape, lower_end, upper_end, all}

module _ {P : Type 0} (le : P → P → Bool) where
  -- x lies strictly above b, if there is a b
  abbrev pub Beyond : Option P → P → Type 0
  Beyond None x = Unit {0}
  Beyond (Some b) x = le x b ≡ false

  -- the ends lie above b and ascend strictly: no range is empty, and neighbours do not touch
  abbrev pub Asc : Option P → List (Range P) → Type 0
  Asc b [] = Unit {0}
  Asc b (r ∷ T) = Beyond b r.lo × (le r.hi r.lo ≡ false) × Asc (Some r.hi) T

  -- the first of a list that is equal to e in order
  abbrev pub first : P → List P → Option P
  first e [] = None
  first e (x ∷ l) = cond (le x e && le e x) (Some x) (first e l)

  -- that first one is e itself
  abbrev pub IsFirst : List P → P → Type 0
  IsFirst l e = first e l ≡ Some e

  -- every lower end is the first, of bot and the lower ends of the shapes, of those equal to it in order; and so the upper ends with top
  abbrev pub Firsts : P → P → List (Shape P) → List (Range P) → Type 0
  Firsts bot top ss T = All (λ r. IsFirst (bot ∷ map lower_end ss) r.lo × IsFirst (top ∷ map upper_end ss) r.hi) T

  -- T is the table of the shapes: its ranges ascend; they hold, of all that lies below top, exactly what every shape accepts; and where the
  -- shapes give several equal ends, the first of them stands
  pub record IsTable (bot top : P) (ss : List (Shape P)) (T : List (Range P)) : Type 0 where
    pub ascends : Asc None T
    pub holds : (c : P) → le top c ≡ false → mem le T c ≡ all le ss c
    pub firsts : Firsts bot top ss T

  -- equal in order
  abbrev pub Alike : P → P → Type 0
  Alike a b = (le a b ≡ true) × (le b a ≡ true)

  -- as many ranges, with ends that are equal in order: the same table but for the choice between equal ends
  abbrev pub SameEnds : List (Range P) → List (Range P) → Type 0
  SameEnds [] [] = Unit {0}
  SameEnds [] (u ∷ U) = ⊥
  SameEnds (t ∷ T) [] = ⊥
  SameEnds (t ∷ T) (u ∷ U) = Alike t.lo u.lo × Alike t.hi u.hi × SameEnds T U

  -- the stretch from lo up to hi lies inside one of the ranges
  abbrev pub Covered : P → P → List (Range P) → Type 0
  Covered lo hi [] = ⊥
  Covered lo hi (r ∷ T) = ((le r.lo lo ≡ true) × (le hi r.hi ≡ true)) ⊎ Covered lo hi T
