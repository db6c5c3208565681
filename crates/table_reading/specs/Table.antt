-- When a table is well formed, record by record from its start, and the ranges that it then says.
use Rattle.std.specs.Prelude.{Bool, true, not, cond, List, [], ◌∷◌, ℕ, zero, suc, ◌-◌, eqb, ltb, length, Option, None, Some}
use Rattle.records.specs.declared.record.RecordAt.{RecordAt}
use Rattle.records.specs.declared.record.RecordAt.TheVariants.{Found, Cut, Nothing}
use Rattle.records.specs.Record.{two_at, record_at, body_of}
use Rattle.ranges.specs.Range.{Range}
use Rattle.list_ends.specs.Cut.{Place, le_place}
use Rattle.table_reading.specs.declared.kind.Due.{Due}
use Rattle.table_reading.specs.declared.kind.Due.TheVariants.{Lower, Upper}
use Rattle.table_reading.specs.declared.kind.Kind.{Kind}
use Rattle.table_reading.specs.declared.kind.Kind.TheVariants.{Count, End, Unknown}
use Rattle.table_reading.specs.Kind.{kind_of, is_due}
use Rattle.table_reading.specs.Body.{end_of}

-- the end that a record says, if it is the one that is due
abbrev pub end_due : Due → Kind → List ℕ → Option Place
end_due due (End end side) body = cond (is_due due end) (end_of side body) None
end_due due Count body = None
end_due due Unknown body = None

-- p lies strictly above the end before it, if there is one; so none below comes only first, and none above only last
abbrev pub ascends : Option Place → Place → Bool
ascends None p = true
ascends (Some below) p = not (le_place p below)

-- an end, and the place after its record
pub record Ended : Type 0 where
  pub place : Place
  pub next : ℕ

abbrev pub above : Option Place → ℕ → Option Place → Option Ended
above previous next None = None
above previous next (Some p) = cond (ascends previous p) (Some (record { place = p; next = next })) None

-- the end of a record, after the end before it
abbrev pub end_in : Due → Option Place → List ℕ → RecordAt → Option Ended
end_in due previous s (Found number start next) = above previous next (end_due due (kind_of number) (body_of s start next))
end_in due previous s Cut = None
end_in due previous s Nothing = None

-- what a table says: its ranges, or a refusal
pub data Tabled : Type 0 where
  refused : ℕ → ℕ → Tabled
  ranges : List (Range Place) → Tabled

-- a table that is not well formed
abbrev pub bad : Tabled
bad = refused 18 0

abbrev pub started_by : Range Place → Tabled → Tabled
started_by r (refused number place) = refused number place
started_by r (ranges T) = ranges (r ∷ T)

abbrev pub on_end : Option Ended → (Ended → Tabled) → Tabled
on_end None more = bad
on_end (Some e) more = more e

-- as many ranges as counted, from a place on and after an end, lower and upper in turn; the records fill the table exactly
unfoldable pub ranges_from : ℕ → Option Place → List ℕ → ℕ → Tabled
ranges_from zero previous s start = cond (eqb start (length s)) (ranges []) bad
ranges_from (suc count) previous s start =
    on_end (end_in Lower previous s (record_at s start)) (λ lo.
    on_end (end_in Upper (Some lo.place) s (record_at s lo.next)) (λ hi.
    started_by (record { lo = lo.place; hi = hi.place }) (ranges_from count (Some hi.place) s hi.next)))

-- first kind 1 with a two-byte count, at most 17
abbrev pub counted_by : Kind → List ℕ → ℕ → ℕ → Tabled
counted_by Count s start next =
    cond (eqb (next - start) 2) (cond (ltb 17 (two_at s start)) bad (ranges_from (two_at s start) None s next)) bad
counted_by (End end side) s start next = bad
counted_by Unknown s start next = bad

abbrev pub counted : List ℕ → RecordAt → Tabled
counted s (Found number start next) = counted_by (kind_of number) s start next
counted s Cut = bad
counted s Nothing = bad

unfoldable pub table_of : List ℕ → Tabled
table_of s = counted s (record_at s 0)
