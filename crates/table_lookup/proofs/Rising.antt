-- The ways of the functions that read the next end of a table, and hold it against the end before it.
-- Assumes nothing.
use Rattle.answers.specs.declared.Refusal.{Refusal}
use Rattle.answers.specs.Refusal.{refusal}
use Rattle.std.specs.Prelude.{Option, None, Some, Result, Ok, Err}
use mathlib.Core.Path.{◌≡◌, refl, sym, ◌∙◌}
use mathlib.Core.Bool.{Bool, true, false, not, false≢true}
use mathlib.Core.List.{List}
use Prim.Native.Nat.{ℕ}
use denote.Enum.Bare.{sameb}
use borrow.Author.Tests.{not-true, not-false}
use Rattle.table_reading.specs.contracts.kind.Due.{the_type}
use Rattle.records.specs.declared.record.RecordAt.{RecordAt}
use Rattle.records.specs.declared.record.RecordAt.TheVariants.{Found}
use Rattle.records.specs.Record.{record_at, body_of}
use Rattle.records.proofs.Reading.{NotFound, not_found}
use Rattle.list_ends.specs.declared.end.Side.{Side}
use Rattle.list_ends.specs.Cut.{Place}
use Rattle.table_reading.specs.declared.kind.Kind.{Kind}
use Rattle.table_reading.specs.declared.kind.Kind.TheVariants.{Count, End, Unknown}
use Rattle.table_reading.specs.declared.kind.Due.{Due}
use Rattle.table_reading.specs.declared.kind.Due.TheVariants.{Lower, Upper}
use Rattle.table_reading.specs.Kind.{kind_of, is_due}
use Rattle.table_reading.specs.Body.{end_of}
use Rattle.table_reading.specs.Table.{ascends, above, end_due, end_in}
use Rattle.table_lookup.specs.declared.end_at.EndAt.{EndAt}
use Rattle.table_lookup.specs.Rows.{RowPlace, le_row, at_row, RowsOf, Said}
use Rattle.table_lookup.specs.Ends.{over, Stands, Ends, EndAbove, NextEnd}
use Rattle.table_lookup.proofs.Compared.{rows_le}

-- the ways of `is_above`
module _ (a : RowPlace) (last : Option Side) (below : List ℕ) where
  pub above_last : (under : Side) (r : Bool) → last ≡ Some under → r ≡ le_row a (at_row under below) → not r ≡ over a last below
  above_last under r e f = rw (e, f)

  pub above_none : last ≡ None → true ≡ over a last below
  above_none e = rw e

-- an end lies above the last one as its place does
rises : (previous : Option Place) (last : Option Side) (below : List ℕ) (p : Place) (a : RowPlace) → Stands previous last below → RowsOf p a →
    over a last below ≡ ascends previous p
rises None None below p a h row = refl
rises None (Some side) below p a h row = absurd h
rises (Some q) None below p a h row = absurd h
rises (Some q) (Some side) below p a h row = rw (rows_le p q a (at_row side below) row h)

-- the ways of `end_above`: what the body said, and whether that lies above
module _ (o : Option Place) (side : Side) (next : ℕ) (last : Option Side) (below row : List ℕ) (said : Bool) (s : Said o said (at_row side row)) where
  pub end_unsaid : not said ≡ true → EndAbove o next last below (Err (refusal 18 0)) row
  end_unsaid e = record { ends = go o s }
    where
      go : (p : Option Place) → Said p said (at_row side row) → (previous : Option Place) → Stands previous last below →
          Ends (above previous next p) (Err (refusal 18 0)) row
      go None h previous stands = refl
      go (Some p) h previous stands = absurd (false≢true (sym (not-true said e) ∙ h.0))

  module _ (up : Bool) (f : up ≡ over (at_row side row) last below) where
    pub end_low : not up ≡ true → EndAbove o next last below (Err (refusal 18 0)) row
    end_low g = record { ends = go o s }
      where
        go : (p : Option Place) → Said p said (at_row side row) → (previous : Option Place) → Stands previous last below →
            Ends (above previous next p) (Err (refusal 18 0)) row
        go None h previous stands = refl
        go (Some p) h previous stands =
            let low : ascends previous p ≡ false =
            sym (rises previous last below p (at_row side row) stands h.1) ∙ sym f ∙ not-true up g in
            rw low refl

    pub end_judged : not said ≡ false → not up ≡ false → EndAbove o next last below (Ok (record { side = side; next = next })) row
    end_judged e g = record { ends = go o s }
      where
        go : (p : Option Place) → Said p said (at_row side row) → (previous : Option Place) → Stands previous last below →
            Ends (above previous next p) (Ok (record { side = side; next = next })) row
        go None h previous stands = absurd (false≢true (sym h ∙ not-false said e))
        go (Some p) h previous stands =
            let high : ascends previous p ≡ true =
            sym (rises previous last below p (at_row side row) stands h.1) ∙ sym f ∙ not-false up g in
            rw high (refl, h.1)

-- what is known in the `else` of `let Kind::End(..) = kind`
abbrev NotEnd : Kind → Type 0
NotEnd k = (end : Due) (side : Side) → k ≡ End end side → ⊥

not_end : (due : Due) (k : Kind) (body : List ℕ) → NotEnd k → end_due due k body ≡ None
not_end due Count body other = refl
not_end due (End end side) body other = absurd (other end side refl)
not_end due Unknown body other = refl

-- the test of the code is the rules'
same_due : (due end : Due) → sameb the_type due end ≡ is_due due end
same_due Lower Lower = refl
same_due Lower Upper = refl
same_due Upper Lower = refl
same_due Upper Upper = refl

-- the ways of `next_end`: r is the record at the place
module _ (due : Due) (s : List ℕ) (at : ℕ) (last : Option Side) (below row : List ℕ) (r : RecordAt) (d : r ≡ record_at s at) where
  pub end_missing : NotFound r → NextEnd due s at last below (Err (refusal 18 0)) row
  end_missing h = record { ends = λ previous stands. rw (← d, not_found (end_in due previous s) None refl refl r h) refl }

  module _ (number start next : ℕ) (e : r ≡ Found number start next) (k : Kind) (f : k ≡ kind_of number) where
    pub end_other : NotEnd k → NextEnd due s at last below (Err (refusal 18 0)) row
    end_other h = record { ends = λ previous stands. rw (← d, e, ← f, not_end due k (body_of s start next) h) refl }

    module _ (end : Due) (side : Side) (h : k ≡ End end side) (t : Bool) (i : t ≡ sameb the_type due end) where
      pub end_not_due : t ≡ false → NextEnd due s at last below (Err (refusal 18 0)) row
      end_not_due j = record { ends = λ previous stands. rw (← d, e, ← f, h, ← same_due due end, ← i, j) refl }

      pub end_read : (q : Result EndAt Refusal) → t ≡ true → EndAbove (end_of side (body_of s start next)) next last below q row →
          NextEnd due s at last below q row
      end_read q j g = record { ends = λ previous stands. rw (← d, e, ← f, h, ← same_due due end, ← i, j) (g.ends previous stands) }
