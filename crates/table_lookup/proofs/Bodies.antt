-- The ways of `body_row`: the row of an end's body.
-- Assumes nothing.
use Rattle.std.specs.Prelude.{Option, None, Some}
use mathlib.Core.Path.{◌≡◌, refl}
use mathlib.Core.Bool.{Bool, true, false, cond}
use mathlib.Core.List.{List}
use Prim.Native.Nat.{ℕ}
use lib.Dec.{eqb}
use lib.ListN.{length}
use Rattle.ranges.specs.Cut.{bot, top, before, after}
use Rattle.version_reading.specs.Value.{Value}
use Rattle.version_rows.specs.Row.{RowOf}
use Rattle.version_rows.specs.Normal.{normal_value, is_there, row_or, NormalRow}
use Rattle.version_rows.proofs.Written.{normal_few}
use Rattle.list_ends.specs.declared.end.Side.{Side}
use Rattle.list_ends.specs.declared.end.Side.TheVariants.{Bottom, Top, Before, After}
use Rattle.list_ends.specs.Cut.{Place}
use Rattle.table_reading.specs.Body.{at, bare, end_of}
use Rattle.table_lookup.specs.Rows.{RowPlace, at_row, RowsOf, Said}

-- a value that is there, with its row
abbrev ValueSaid : Option Value → Bool → List ℕ → Type 0
ValueSaid None there row = there ≡ false
ValueSaid (Some v) there row = (there ≡ true) × RowOf v row

value_said : (text old new : List ℕ) (r : Bool) → NormalRow text old new r → ValueSaid (normal_value text) r new
value_said text old new r p = go (normal_value text) refl p.is p.leaves
  where
    go : (o : Option Value) → normal_value text ≡ o → r ≡ is_there o → new ≡ row_or o old → ValueSaid o r new
    go None e f g = f
    go (Some v) e f g = (f, record { is = g; few = normal_few text v e })

said_before : (o : Option Value) (r : Bool) (row : List ℕ) → ValueSaid o r row → Said (at before o) r (before row)
said_before None r row h = h
said_before (Some v) r row h = let few = h.1.few in (h.0, record { is = rw h.1.is; few = few })

said_after : (o : Option Value) (r : Bool) (row : List ℕ) → ValueSaid o r row → Said (at after o) r (after row)
said_after None r row h = h
said_after (Some v) r row h = let few = h.1.few in (h.0, record { is = rw h.1.is; few = few })

bare_said : (p : Place) (a : RowPlace) (body : List ℕ) → RowsOf p a → Said (bare p body) (eqb (length body) 0) a
bare_said p a body h = by (eqb (length body) 0)
  where
    by : (empty : Bool) → Said (cond empty (Some p) None) empty a
    by true = (refl, h)
    by false = refl

module _ (side : Side) (body row : List ℕ) where
  pub body_bottom : side ≡ Bottom → Said (end_of side body) (eqb (length body) 0) (at_row side row)
  body_bottom e = rw e (bare_said bot bot body (record { is = refl; few = tt }))

  pub body_top : side ≡ Top → Said (end_of side body) (eqb (length body) 0) (at_row side row)
  body_top e = rw e (bare_said top top body (record { is = refl; few = tt }))

  module _ (old : List ℕ) (r : Bool) (p : NormalRow body old row r) where
    pub body_before : side ≡ Before → Said (end_of side body) r (at_row side row)
    body_before e = rw e (said_before (normal_value body) r row (value_said body old row r p))

    pub body_after : side ≡ After → Said (end_of side body) r (at_row side row)
    body_after e = rw e (said_after (normal_value body) r row (value_said body old row r p))
