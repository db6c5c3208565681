-- A place's key as a row of 24 numbers: rows compare number by number as their places do.
use Rattle.std.specs.Prelude.{◌≡◌, Bool, List, [], ◌∷◌, ◌++◌, length, take, drop, replicate}
use Prim.Native.Nat.{ℕ, zero, suc, ◌*◌, ◌≤◌, compare}
use Rattle.std.proofs.Math.Seq.{paste}
use Rattle.order.specs.Compare.{padded}
use Rattle.order.specs.Preorder.{at_most}
use Rattle.ranges.specs.Cut.{bot, top, before, after}
use Rattle.version_reading.specs.Value.{Value}
use Rattle.version_rows.specs.Row.{row_of}
use Rattle.list_ends.specs.Cut.{Place}

-- the level of a version, its row, and the side: 0 before and 1 after
abbrev pub version_row : ℕ → Value → List ℕ
version_row side v = 1 ∷ (row_of v ++ (side ∷ []))

-- the level is 0 below all, and 2 above all
unfoldable pub key_row : Place → List ℕ
key_row bot = replicate 24 0
key_row top = 2 ∷ replicate 23 0
key_row (before v) = version_row 0 v
key_row (after v) = version_row 1 v

-- places that have such a row
abbrev pub Short : Place → Type 0
Short bot = Unit {0}
Short top = Unit {0}
Short (before v) = length v.release ≤ 16
Short (after v) = length v.release ≤ 16

pub record VersionRow (side : ℕ) (v : Value) (r : List ℕ) : Type 0 where
  pub is : r ≡ version_row side v
  pub short : length v.release ≤ 16

pub record PlaceRow (p : Place) (r : List ℕ) : Type 0 where
  pub is : r ≡ key_row p
  pub short : Short p

-- rows number 0, 1, .. one after the other
unfoldable pub rows_to : (ℕ → Place) → ℕ → List ℕ
rows_to f zero = []
rows_to f (suc count) = rows_to f count ++ key_row (f count)

-- row number n of such a list
unfoldable pub row_at : List ℕ → ℕ → List ℕ
row_at rows n = take 24 (drop (24 * n) rows)

-- ends by number, compared by their rows
abbrev pub le_row : List ℕ → ℕ → ℕ → Bool
le_row rows a b = at_most (padded compare 0) (row_at rows a) (row_at rows b)

-- the first rows are those of the places number 0, 1, ..
pub record Rows (f : ℕ → Place) (count : ℕ) (rows : List ℕ) : Type 0 where
  pub are : take (24 * count) rows ≡ rows_to f count
  pub short : (n : ℕ) → suc n ≤ count → Short (f n)

-- the rows of two places were stored as those with the number m and the next
pub record EndsPut (m : ℕ) (p q : Place) (old new : List ℕ) : Type 0 where
  pub is : new ≡ paste (paste old (24 * m) (key_row p) 24) (24 * suc m) (key_row q) 24
  pub first : Short p
  pub second : Short q
  pub size : length new ≡ length old
