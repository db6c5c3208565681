-- The ways of the functions that search a table.
-- Assumes nothing.
use Rattle.answers.specs.declared.Refusal.{Refusal}
use Rattle.std.specs.Prelude.{Result, Err, Ok, Option, None, Some}
use mathlib.Core.Path.{◌≡◌, refl, sym, ◌∙◌, ap, subst}
use mathlib.Core.Bool.{Bool, true, false, ◌||◌}
use mathlib.Core.List.{List}
use Prim.Native.Nat.{ℕ, suc, ◌+◌, ◌-◌, ◌≤◌, ◌<◌}
use native.Mathlib.Omega.{arith}
use lib.ListN.{length}
use borrow.Author.Tests.{eq-eqb, ne_eqb, lt-ltb, le-ltb}
use Rattle.records.specs.declared.record.RecordAt.{RecordAt}
use Rattle.records.specs.declared.record.RecordAt.TheVariants.{Found}
use Rattle.records.specs.Record.{two_at, record_at}
use Rattle.records.proofs.Reading.{NotFound, not_found}
use Rattle.ranges.specs.Cut.{before}
use Rattle.ranges.specs.Range.{Range, within}
use Rattle.answers.specs.Refusal.{refusal}
use Rattle.list_ends.specs.declared.end.Side.{Side}
use Rattle.list_ends.specs.Cut.{Place}
use Rattle.table_reading.specs.declared.kind.Kind.{Kind}
use Rattle.table_reading.specs.declared.kind.Kind.TheVariants.{Count, End, Unknown}
use Rattle.table_reading.specs.declared.kind.Due.TheVariants.{Lower, Upper}
use Rattle.table_reading.specs.Kind.{kind_of}
use Rattle.table_reading.specs.Table.{Ended, end_in, Tabled, refused, ranges, bad, started_by, ranges_from, counted_by, counted, table_of}
use Rattle.table_lookup.specs.declared.end_at.EndAt.{EndAt}
use Rattle.table_lookup.specs.Rows.{le_row, at_row, rowed, RowsOf}
use Rattle.table_lookup.specs.Ends.{Stands, Ends, NextEnd}
use Rattle.table_lookup.specs.Lookup.{bad_table, searched_for}

-- the answer, with what the ranges before have said
abbrev pub or_held : Bool → Result Bool Refusal → Result Bool Refusal
or_held earlier (Ok later) = Ok (earlier || later)
or_held earlier (Err x) = Err x

or_none : (x : Result Bool Refusal) → or_held false x ≡ x
or_none (Ok later) = refl
or_none (Err x) = refl

or_more : (a b : Bool) (x : Result Bool Refusal) → or_held a (or_held b x) ≡ or_held (a || b) x
or_more true b (Ok later) = refl
or_more false b (Ok later) = refl
or_more a b (Err x) = refl

or_last : (a : Bool) → or_held a (Ok false) ≡ Ok a
or_last true = refl
or_last false = refl

started : (c : List ℕ) (r : Range Place) (t : Tabled) →
    searched_for c (started_by r t) ≡ or_held (within le_row (rowed r.lo) (rowed r.hi) (before c)) (searched_for c t)
started c r (refused number place) = refl
started c r (ranges T) = refl

-- t is all that is said: what was held so far, and what is left to say after the last end
pub record SoFar (s c : List ℕ) (held : Bool) (last : Option Side) (next : ℕ) (row : List ℕ) (left : ℕ) (t : Result Bool Refusal) : Type 0 where
  pub previous : Option Place
  pub stands : Stands previous last row
  pub same : or_held held (searched_for c (ranges_from left previous s next)) ≡ t

-- an end that was refused is none of the rules
record Missed (o : Option Ended) (x : Refusal) : Type 0 where
  none : o ≡ None
  is : x ≡ refusal 18 0

missed : (o : Option Ended) (r : Result EndAt Refusal) (row : List ℕ) (x : Refusal) → Ends o r row → r ≡ Err x → Missed o x
missed None (Ok e) row x h f = absurd h
missed None (Err y) row x h f = let same : y ≡ x = cc in record { none = refl; is = sym same ∙ h }
missed (Some z) (Ok e) row x h f = let impossible : ◌≡◌ {A = ℕ} 0 1 = cc in absurd (omega arith)
missed (Some z) (Err y) row x h f = absurd h

-- and one that was read is the one that the rules say
record Reached (o : Option Ended) (e : EndAt) (row : List ℕ) : Type 0 where
  end : Ended
  is : o ≡ Some end
  next : e.next ≡ end.next
  rows : RowsOf end.place (at_row e.side row)

reached : (o : Option Ended) (r : Result EndAt Refusal) (row : List ℕ) (e : EndAt) → Ends o r row → r ≡ Ok e → Reached o e row
reached None (Ok d) row e h f = absurd h
reached None (Err y) row e h f = let impossible : ◌≡◌ {A = ℕ} 0 1 = cc in absurd (omega arith)
reached (Some z) (Ok d) row e h f =
    let same : d ≡ e = cc in
    let both = rw same at h in
    record { end = z; is = refl; next = both.0; rows = both.1 }
reached (Some z) (Err y) row e h f = absurd h

-- the ways of `search_ranges`
module _ (s c : List ℕ) (held : Bool) (last : Option Side) (next : ℕ) (under : List ℕ) (count i : ℕ) (t : Result Bool Refusal)
    (far : SoFar s c held last next under (count - i) t) where
  module _ (more : i < count) (p : Result EndAt Refusal) (low : List ℕ) (e : NextEnd Lower s next last under p low) where
    abbrev first : Option Ended
    first = end_in Lower far.previous s (record_at s next)

    one : count - i ≡ suc (count - (i + 1))
    one = omega arith

    pub lower_bad : (x : Refusal) (r : Result Bool Refusal) → p ≡ Err x → r ≡ Err x → r ≡ t
    unfolding ranges_from
    lower_bad x r f g =
        let none-there = missed first p low x (e.ends far.previous far.stands) f in
        g ∙ ap Err none-there.is ∙ rw (one, none-there.none) at far.same

    module _ (lower : EndAt) (f : p ≡ Ok lower) (q : Result EndAt Refusal) (high : List ℕ)
        (g : NextEnd Upper s lower.next (Some lower.side) low q high) where
      lo : Reached first lower low
      lo = reached first p low lower (e.ends far.previous far.stands) f

      abbrev second : Option Ended
      second = end_in Upper (Some lo.end.place) s (record_at s lo.end.next)

      after_lower : Ends second q high
      after_lower =
          subst (λ n. Ends (end_in Upper (Some lo.end.place) s (record_at s n)) q high) lo.next (g.ends (Some lo.end.place) lo.rows)

      pub upper_bad : (x : Refusal) (r : Result Bool Refusal) → q ≡ Err x → r ≡ Err x → r ≡ t
      unfolding ranges_from
      upper_bad x r h k =
          let none-there = missed second q high x after_lower h in
          k ∙ ap Err none-there.is ∙ rw (one, lo.is, none-there.none) at far.same

      pub range_read : (upper : EndAt) (now : Bool) → q ≡ Ok upper →
          now ≡ held || within le_row (at_row lower.side low) (at_row upper.side high) (before c) →
          SoFar s c now (Some upper.side) upper.next high (count - (i + 1)) t
      unfolding ranges_from
      range_read upper now h k =
          let hi = reached second q high upper after_lower h in
          let rest : ℕ → Tabled = ranges_from (count - (i + 1)) (Some hi.end.place) s in
          let range : Range Place = record { lo = lo.end.place; hi = hi.end.place } in
          let turned : or_held held (searched_for c (started_by range (rest hi.end.next))) ≡ t = rw (one, lo.is, hi.is) at far.same in
          let here : or_held held (searched_for c (started_by range (rest upper.next))) ≡ t =
          ap (λ n. or_held held (searched_for c (started_by range (rest n)))) hi.next ∙ turned in
          let said : now ≡ held || within le_row (rowed lo.end.place) (rowed hi.end.place) (before c) =
          k ∙ rw (lo.rows.is, hi.rows.is) in
          record {
            previous = Some hi.end.place;
            stands = hi.rows;
            same =
                rw said
                (sym (or_more held _ (searched_for c (rest upper.next))) ∙ ap (or_held held) (sym (started c range (rest upper.next))) ∙ here);
          }

  module _ (all : count ≤ i) where
    zero_left : count - i ≡ 0
    zero_left = omega arith

    pub bytes_after : (next ≡ length s → ⊥) → bad_table ≡ t
    unfolding ranges_from
    bytes_after f = rw (zero_left, ne_eqb _ _ f) at far.same

    pub ranges_end : next ≡ length s → Ok held ≡ t
    unfolding ranges_from
    ranges_end f = sym (or_last held) ∙ rw (zero_left, eq-eqb _ _ f) at far.same

-- what is known in the `else` of `let Kind::Count = kind`
abbrev NotCount : Kind → Type 0
NotCount k = k ≡ Count → ⊥

no_count : (k : Kind) (s : List ℕ) (start next : ℕ) → NotCount k → counted_by k s start next ≡ bad
no_count (End end side) s start next other = refl
no_count Unknown s start next other = refl
no_count Count s start next other = absurd (other refl)

-- the ways of `search_table`: r is the first record
module _ (s c : List ℕ) (r : RecordAt) (d : r ≡ record_at s 0) where
  pub first_missing : NotFound r → bad_table ≡ searched_for c (table_of s)
  unfolding table_of
  first_missing h = rw (← d, not_found (counted s) bad refl refl r h)

  module _ (number start next : ℕ) (e : r ≡ Found number start next) (k : Kind) (f : k ≡ kind_of number) where
    pub first_other : NotCount k → bad_table ≡ searched_for c (table_of s)
    unfolding table_of
    first_other h = rw (← d, e, ← f, no_count k s start next h)

    module _ (h : k ≡ Count) where
      pub count_long : (next - start ≡ 2 → ⊥) → bad_table ≡ searched_for c (table_of s)
      unfolding table_of
      count_long i = rw (← d, e, ← f, h, ne_eqb (next - start) 2 i)

      module _ (i : next - start ≡ 2) (count : ℕ) (j : count ≡ two_at s start) where
        pub count_over : 17 < count → bad_table ≡ searched_for c (table_of s)
        unfolding table_of
        count_over m = rw (← d, e, ← f, h, eq-eqb (next - start) 2 i, ← j, lt-ltb 17 count m)

        pub count_read : (q : Result Bool Refusal) → count ≤ 17 → q ≡ searched_for c (ranges_from count None s next) → q ≡ searched_for c (table_of s)
        unfolding table_of
        count_read q m g = rw (← d, e, ← f, h, eq-eqb (next - start) 2 i, ← j, le-ltb 17 count m) g
