-- What one clause accepts, as a shape. Definitions only; assumes nothing.
use Rattle.std.specs.Prelude.{◌≡◌, List, [], ◌∷◌, Bool, true, false, not, ◌&&◌, ℕ, suc}
use Rattle.ranges.specs.Range.{within}

-- all cuts from the first end up to the second, or all but those
pub data Shape (P : Type 0) : Type 0 where
  span : P → P → Shape P
  hole : P → P → Shape P

module _ {P : Type 0} where
  -- the end at which a range may start because of the shape: a span's first, and a hole's second
  abbrev pub lower_end : Shape P → P
  lower_end (span lo hi) = lo
  lower_end (hole lo hi) = hi

  -- the end at which a range may stop because of the shape
  abbrev pub upper_end : Shape P → P
  upper_end (span lo hi) = hi
  upper_end (hole lo hi) = lo

  -- how many of the shapes are holes
  abbrev pub holes : List (Shape P) → ℕ
  holes [] = 0
  holes (span lo hi ∷ ss) = holes ss
  holes (hole lo hi ∷ ss) = suc (holes ss)

module _ {P : Type 0} (le : P → P → Bool) where
  -- the shape accepts c
  abbrev pub accepts : Shape P → P → Bool
  accepts (span lo hi) c = within le lo hi c
  accepts (hole lo hi) c = not (within le lo hi c)

  -- every shape of the list accepts c
  abbrev pub all : List (Shape P) → P → Bool
  all [] c = true
  all (s ∷ ss) c = accepts s c && all ss c

  -- a hole is not empty; a span may be
  abbrev pub Proper : Shape P → Type 0
  Proper (span lo hi) = Unit {0}
  Proper (hole lo hi) = le hi lo ≡ false
