-- What is known of an end that was read: its version is readable and has no label, and it lies strictly above the end before it.
-- Assumes nothing.
use Rattle.std.specs.Prelude.{Option, None, Some}
use mathlib.Core.Path.{◌≡◌, refl}
use mathlib.Core.Bool.{true}
use mathlib.Core.List.{List}
use Prim.Native.Nat.{ℕ}
use lib.Dec.{eqb}
use lib.ListN.{length}
use borrow.Author.Tests.{not-true}
use Rattle.records.specs.declared.record.RecordAt.{RecordAt}
use Rattle.records.specs.declared.record.RecordAt.TheVariants.{Found, Cut, Nothing}
use Rattle.records.specs.Record.{body_of}
use Rattle.ranges.specs.Cut.{bot, top, before, after}
use Rattle.ranges.specs.Table.{Beyond}
use Rattle.version_reading.specs.Value.{Value}
use Rattle.version_roundtrip.specs.Readable.{Writable}
use Rattle.version_roundtrip.proofs.ReadPlaces.{by_cond}
use Rattle.version_rows.specs.Normal.{normal_value}
use Rattle.version_rows.proofs.Written.{normal_writable}
use Rattle.list_ends.specs.Cut.{Place, le_place}
use Rattle.list_ends.specs.Writable.{Lower, Upper}
use Rattle.list_ends.specs.declared.end.Side.TheVariants.{Before, After}
use Rattle.table_reading.specs.declared.kind.Due.{Due}
use Rattle.table_reading.specs.declared.kind.Due.TheVariants.{Lower as IsLower, Upper as IsUpper}
use Rattle.table_reading.specs.declared.kind.Kind.{Kind}
use Rattle.table_reading.specs.declared.kind.Kind.TheVariants.{Count, End, Unknown}
use Rattle.table_reading.specs.Kind.{range_count, none_below, from_before, from_after, none_above, to_before, to_after, kind_of}
use Rattle.table_reading.specs.Body.{at, bare, end_of}
use Rattle.table_reading.specs.Table.{end_due, ascends, Ended, above, end_in}

abbrev ValueIs : (Value → Type 0) → Option Value → Type 0
ValueIs Q None = Unit {0}
ValueIs Q (Some v) = Q v

abbrev PlaceIs : (Place → Type 0) → Option Place → Type 0
PlaceIs Q None = Unit {0}
PlaceIs Q (Some p) = Q p

-- the end lies above the one before it, too
abbrev pub EndIs : (Place → Type 0) → Option Place → Option Ended → Type 0
EndIs Q b None = Unit {0}
EndIs Q b (Some e) = Beyond le_place b e.place × Q e.place

value_is : (Q : Value → Type 0) (o : Option Value) → ((v : Value) → o ≡ Some v → Q v) → ValueIs Q o
value_is Q None f = tt
value_is Q (Some v) f = f v refl

version_writable : (body : List ℕ) → ValueIs Writable (normal_value body)
version_writable body = value_is Writable (normal_value body) (normal_writable body)

at_is : (Q : Place → Type 0) (side : Value → Place) → ((v : Value) → Writable v → Q (side v)) → (o : Option Value) → ValueIs Writable o → PlaceIs Q (at side o)
at_is Q side f None h = tt
at_is Q side f (Some v) h = f v h

bare_is : (Q : Place → Type 0) (p : Place) (body : List ℕ) → Q p → PlaceIs Q (bare p body)
bare_is Q p body h = by_cond (PlaceIs Q) (eqb (length body) 0) (λ e. h) (λ e. tt)

-- what is said of a lower end, or of an upper end
abbrev pub OfSort : Due → Place → Type 0
OfSort IsLower p = Lower p
OfSort IsUpper p = Upper p

-- what a kind says is such an end, whatever the body
abbrev KindIs : Kind → Type 0
KindIs (End end side) = (body : List ℕ) → PlaceIs (OfSort end) (end_of side body)
KindIs Count = Unit {0}
KindIs Unknown = Unit {0}

at_before : (end : Due) (body : List ℕ) → PlaceIs (OfSort end) (end_of Before body)
at_before IsLower body = at_is Lower before (λ v w. w) (normal_value body) (version_writable body)
at_before IsUpper body = at_is Upper before (λ v w. w) (normal_value body) (version_writable body)

at_after : (end : Due) (body : List ℕ) → PlaceIs (OfSort end) (end_of After body)
at_after IsLower body = at_is Lower after (λ v w. w) (normal_value body) (version_writable body)
at_after IsUpper body = at_is Upper after (λ v w. w) (normal_value body) (version_writable body)

-- by the rows of the kinds
kind_is : (number : ℕ) → KindIs (kind_of number)
unfolding kind_of
kind_is number =
    by_cond KindIs (eqb number range_count) (λ e. tt)
    (λ n1. by_cond KindIs (eqb number none_below) (λ e body. bare_is Lower bot body tt)
    (λ n2. by_cond KindIs (eqb number from_before) (λ e. at_before IsLower)
    (λ n3. by_cond KindIs (eqb number from_after) (λ e. at_after IsLower)
    (λ n4. by_cond KindIs (eqb number none_above) (λ e body. bare_is Upper top body tt)
    (λ n5. by_cond KindIs (eqb number to_before) (λ e. at_before IsUpper)
    (λ n6. by_cond KindIs (eqb number to_after) (λ e. at_after IsUpper) (λ n7. tt)))))))

due_is : (due : Due) (k : Kind) (body : List ℕ) → KindIs k → PlaceIs (OfSort due) (end_due due k body)
due_is due Count body h = tt
due_is due Unknown body h = tt
due_is IsLower (End IsLower side) body h = h body
due_is IsLower (End IsUpper side) body h = tt
due_is IsUpper (End IsLower side) body h = tt
due_is IsUpper (End IsUpper side) body h = h body

beyond : (b : Option Place) (p : Place) → ascends b p ≡ true → Beyond le_place b p
beyond None p e = tt
beyond (Some below) p e = not-true (le_place p below) e

above_is : (Q : Place → Type 0) (b : Option Place) (next : ℕ) (o : Option Place) → PlaceIs Q o → EndIs Q b (above b next o)
above_is Q b next None h = tt
above_is Q b next (Some p) h = by_cond (EndIs Q b) (ascends b p) (λ e. (beyond b p e, h)) (λ e. tt)

pub end_is : (due : Due) (b : Option Place) (s : List ℕ) (r : RecordAt) → EndIs (OfSort due) b (end_in due b s r)
end_is due b s (Found number start next) =
    above_is (OfSort due) b next (end_due due (kind_of number) (body_of s start next)) (due_is due (kind_of number) (body_of s start next) (kind_is number))
end_is due b s Cut = tt
end_is due b s Nothing = tt
