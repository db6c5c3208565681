-- What an end that was read says beside its row: the end of the rules, whichever end the one before it is.
use Rattle.answers.specs.declared.Refusal.{Refusal}
use Rattle.answers.specs.Refusal.{refusal}
use Rattle.std.specs.Prelude.{◌≡◌, Bool, true, not, List, ℕ, Option, None, Some, Result, Ok, Err}
use Rattle.records.specs.Record.{record_at}
use Rattle.list_ends.specs.declared.end.Side.{Side}
use Rattle.list_ends.specs.Cut.{Place}
use Rattle.table_reading.specs.declared.kind.Due.{Due}
use Rattle.table_reading.specs.Table.{Ended, above, end_in}
use Rattle.table_lookup.specs.declared.end_at.EndAt.{EndAt}
use Rattle.table_lookup.specs.Rows.{RowPlace, le_row, at_row, RowsOf}

-- above the last end, if there is one
abbrev pub over : RowPlace → Option Side → List ℕ → Bool
over a None below = true
over a (Some side) below = not (le_row a (at_row side below))

-- the last end of the rules, by its side and its row
abbrev pub Stands : Option Place → Option Side → List ℕ → Type 0
Stands None None row = Unit {0}
Stands None (Some side) row = ⊥
Stands (Some p) None row = ⊥
Stands (Some p) (Some side) row = RowsOf p (at_row side row)

-- an end of the rules, or the refusal of a table that has none there
abbrev pub Ends : Option Ended → Result EndAt Refusal → List ℕ → Type 0
Ends None (Ok e) row = ⊥
Ends None (Err x) row = x ≡ refusal 18 0
Ends (Some y) (Ok e) row = (e.next ≡ y.next) × RowsOf y.place (at_row e.side row)
Ends (Some y) (Err x) row = ⊥

-- the end p, if it lies above the last one
pub record EndAbove (p : Option Place) (next : ℕ) (last : Option Side) (below : List ℕ) (r : Result EndAt Refusal) (row : List ℕ) : Type 0 where
  pub ends : (previous : Option Place) → Stands previous last below → Ends (above previous next p) r row

-- the end of the record at a place
pub record NextEnd (due : Due) (s : List ℕ) (at : ℕ) (last : Option Side) (below : List ℕ) (r : Result EndAt Refusal) (row : List ℕ) : Type 0 where
  pub ends : (previous : Option Place) → Stands previous last below → Ends (end_in due previous s (record_at s at)) r row
