-- The rows of ends, side by side.
-- Assumes nothing.
use mathlib.Core.Path.{◌≡◌}
use mathlib.Core.List.{List, [], ◌∷◌}
use Prim.Native.Nat.{ℕ}
use lib.ListN.{replicate}
use Rattle.version_reading.specs.Value.{value_of}
use Rattle.list_ends.specs.declared.end.Side.TheVariants.{Bottom, Top, Before, After}
use Rattle.list_ends.specs.declared.end.End.{End}
use Rattle.list_ends.specs.End.{place_of}
use Rattle.list_fold.specs.Row.{key_row, VersionRow, PlaceRow}

-- the ways out of `key_row`
module _ (e : End) (r : List ℕ) where
  pub bottom_row : e.side ≡ Bottom → r ≡ replicate 24 0 → PlaceRow (place_of e) r
  unfolding key_row
  bottom_row s f = rw s (record { is = f; short = tt })

  pub top_row : e.side ≡ Top → r ≡ 2 ∷ replicate 23 0 → PlaceRow (place_of e) r
  unfolding key_row
  top_row s f = rw s (record { is = f; short = tt })

  pub before_row : e.side ≡ Before → VersionRow 0 (value_of [] e.version) r → PlaceRow (place_of e) r
  unfolding key_row
  before_row s v = rw s (record { is = v.is; short = v.short })

  pub after_row : e.side ≡ After → VersionRow 1 (value_of [] e.version) r → PlaceRow (place_of e) r
  unfolding key_row
  after_row s v = rw s (record { is = v.is; short = v.short })
