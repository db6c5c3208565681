-- Places between rows: the places between versions, with each version's row in its stead.
use Rattle.std.specs.Prelude.{◌≡◌, Bool, true, false, List, length, Option, None, Some}
use Prim.Native.Nat.{ℕ, ◌≤◌, compare}
use Rattle.order.specs.Compare.{padded}
use Rattle.ranges.specs.Cut.{Cut, bot, top, before, after, value, le_cut}
use Rattle.version_reading.specs.Value.{Value}
use Rattle.version_rows.specs.Row.{row_of}
use Rattle.list_ends.specs.declared.end.Side.{Side}
use Rattle.list_ends.specs.declared.end.Side.TheVariants.{Bottom, Top, Before, After}
use Rattle.list_ends.specs.Cut.{Place}

abbrev pub RowPlace : Type 0
RowPlace = Cut (List ℕ)

-- rows compare number by number
abbrev pub le_row : RowPlace → RowPlace → Bool
le_row = le_cut (padded compare 0)

-- the place on a side of a row; below all and above all stand beside any row
abbrev pub at_row : Side → List ℕ → RowPlace
at_row Bottom row = bot
at_row Top row = top
at_row Before row = before row
at_row After row = after row

-- a place with its version's row
abbrev pub rowed : Place → RowPlace
rowed bot = bot
rowed top = top
rowed (before v) = before (row_of v)
rowed (after v) = after (row_of v)

-- there is room in a row for the release of the version, if there is one
abbrev pub HasRoom : Option Value → Type 0
HasRoom None = Unit {0}
HasRoom (Some v) = length v.release ≤ 16

pub record RowsOf (p : Place) (a : RowPlace) : Type 0 where
  pub is : a ≡ rowed p
  pub few : HasRoom (value p)

-- whether there is a place, and where there is one, that it is `a`
abbrev pub Said : Option Place → Bool → RowPlace → Type 0
Said None there a = there ≡ false
Said (Some p) there a = (there ≡ true) × RowsOf p a
