-- The ways of `judge`, `lookup_row` and `lookup`: looking a text's row up is looking the text up.
-- Assumes nothing.
use Rattle.answers.specs.declared.RefusedInput.TheVariants.{First, Second}
use Rattle.answers.specs.declared.RefusedInput.{RefusedInput}
use Rattle.std.specs.Prelude.{Result, Err, Ok}
use mathlib.Core.Path.{◌≡◌, refl, ◌∙◌, ap}
use mathlib.Core.Bool.{Bool, true, false}
use mathlib.Core.List.{List, [], ◌∷◌}
use Prim.Native.Nat.{ℕ}
use Rattle.answers.specs.declared.Refusal.{Refusal}
use Rattle.order.specs.All.{All}
use Rattle.ranges.specs.Cut.{bot, top, before, after, value}
use Rattle.ranges.specs.Range.{Range, mem}
use Rattle.version_reading.specs.declared.text.Verdict.{Verdict}
use Rattle.version_reading.specs.declared.text.Verdict.TheVariants.{Accepted, Refused as NotAccepted}
use Rattle.version_reading.specs.Value.{Value, value_in}
use Rattle.version_rows.specs.Row.{RowOf}
use Rattle.version_rows.specs.Read.{RowRead}
use Rattle.version_rows.proofs.ReadRows.{accepted_row}
use Rattle.list_ends.specs.Cut.{Place, le_place}
use Rattle.list_ends.specs.Writable.{Lower, Upper, Written}
use Rattle.table_reading.specs.Table.{Tabled, refused, ranges, table_of}
use Rattle.table_reading.specs.Lookup.{judged, looked_up, looked}
use Rattle.table_reading.proofs.Tables.{well_formed}
use Rattle.table_lookup.specs.Rows.{rowed, HasRoom, RowsOf}
use Rattle.table_lookup.specs.Lookup.{holds_row, searched_for, told, looked_row}
use Rattle.table_lookup.proofs.Compared.{rows_le}

pub judge_accepted : (v : Verdict) (held : Bool) → v ≡ Accepted → Ok held ≡ judged v held
judge_accepted v true e = rw e
judge_accepted v false e = rw e

pub judge_refused : (v : Verdict) (held : Bool) (x : Refusal) → v ≡ NotAccepted x → Err (Second x) ≡ judged v held
judge_refused v held x e = rw e

-- the ways of `lookup_row`
module _ (s row : List ℕ) (verdict : Verdict) (q : Result Bool Refusal) (e : q ≡ searched_for row (table_of s)) where
  pub row_refused : (x : Refusal) → q ≡ Err x → Err (First x) ≡ looked_row s verdict row
  unfolding looked_row
  row_refused x f = rw (← e, f)

  pub row_held : (held : Bool) (r : Result Bool RefusedInput) → q ≡ Ok held → r ≡ judged verdict held → r ≡ looked_row s verdict row
  unfolding looked_row
  row_held held r f g = rw (← e, f) g

-- the ends of a well-formed table have rows
lower_room : (p : Place) → Lower p → HasRoom (value p)
lower_room bot h = tt
lower_room top h = elim h [ ]
lower_room (before v) h = h.readable.few
lower_room (after v) h = h.readable.few

upper_room : (p : Place) → Upper p → HasRoom (value p)
upper_room bot h = elim h [ ]
upper_room top h = tt
upper_room (before v) h = h.readable.few
upper_room (after v) h = h.readable.few

-- its ranges hold a version's row exactly if they hold the version
rows_hold : (T : List (Range Place)) (v : Value) (row : List ℕ) → All Written T → RowOf v row → holds_row T row ≡ mem le_place T (before v)
rows_hold [] v row h r = refl
rows_hold (x ∷ T) v row h r =
    let few = r.few in
    let here : RowsOf (before v) (before row) = record { is = rw r.is; few = few } in
    let low : RowsOf x.lo (rowed x.lo) = record { is = refl; few = lower_room x.lo h.0.lower } in
    let high : RowsOf x.hi (rowed x.hi) = record { is = refl; few = upper_room x.hi h.0.upper } in
    rw (
      rows_le x.lo (before v) (rowed x.lo) (before row) low here,
      rows_le x.hi (before v) (rowed x.hi) (before row) high here,
      rows_hold T v row h.1 r,
    )

-- what reading the text gave
module _ (s text old row : List ℕ) (verdict : Verdict) (read : RowRead text old row verdict) where
  by_table : (t : Tabled) → table_of s ≡ t → told verdict (searched_for row t) ≡ looked_up t verdict (value_in text)
  by_table (refused number place) e = refl
  by_table (ranges T) e = by_verdict verdict refl
    where
      by_verdict : (x : Verdict) → verdict ≡ x → judged x (holds_row T row) ≡ judged x (mem le_place T (before (value_in text)))
      by_verdict (NotAccepted y) f = refl
      by_verdict Accepted f =
          ap (judged Accepted) (rows_hold T (value_in text) row (well_formed s T e).ends (accepted_row text old row verdict read f))

  pub row_looked : looked_row s verdict row ≡ looked s text
  unfolding looked_row looked
  row_looked = by_table (table_of s) refl ∙ ap (λ x. looked_up (table_of s) x (value_in text)) read.is

  pub text_looked : (r : Result Bool RefusedInput) → r ≡ looked_row s verdict row → r ≡ looked s text
  text_looked r e = e ∙ row_looked
