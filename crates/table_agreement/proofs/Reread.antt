-- A table that was written says its ranges again.
-- Assumes nothing.
use Rattle.std.specs.Prelude.{Option, None, Some}
use mathlib.Core.Path.{◌≡◌, refl}
use mathlib.Core.Bool.{true}
use mathlib.Core.List.{List, [], ◌∷◌, ◌++◌}
use Prim.Native.Nat.{ℕ, ◌+◌, ◌≤◌, ◌<◌}
use native.Mathlib.Omega.{arith}
use lib.ListN.{length}
use borrow.Author.Tests.{le-ltb, eq-eqb}
use Rattle.order.specs.All.{All}
use Rattle.records.specs.Record.{two_bytes_of, record_text, record_at}
use Rattle.records.proofs.Writing.{two_long}
use Rattle.records.proofs.Readback.{Here, record_next, record_here, body_here, number_here}
use Rattle.ranges.specs.Cut.{bot, top, before, after}
use Rattle.ranges.specs.Range.{Range}
use Rattle.ranges.specs.Table.{Beyond, Asc}
use Rattle.version_reading.specs.Value.{Value}
use Rattle.version_roundtrip.specs.Text.{value_text}
use Rattle.version_roundtrip.specs.Readable.{Writable}
use Rattle.version_roundtrip.proofs.Unlabelled.{unlabelled_length}
use Rattle.version_rows.proofs.Written.{normal_here}
use Rattle.list_ends.specs.Cut.{Place, le_place}
use Rattle.list_ends.specs.Writable.{Lower, Upper, Written}
use Rattle.table_reading.specs.declared.kind.Due.{Due}
use Rattle.table_reading.specs.declared.kind.Due.TheVariants.{Lower as IsLower, Upper as IsUpper}
use Rattle.table_reading.specs.Kind.{range_count, kind_of}
use Rattle.table_reading.specs.Text.{lower_kind, upper_kind, body_text, upper_text, ranges_text, table_text}
use Rattle.table_reading.specs.Table.{end_due, ascends, Ended, end_in, ranges, ranges_from, table_of}

text_short : (v : Value) → Writable v → length (value_text v) < 65536
text_short v w = omega (arith, unlabelled_length v w.readable w.unlabelled)

beyond_ascends : (b : Option Place) (p : Place) → Beyond le_place b p → ascends b p ≡ true
beyond_ascends None p e = refl
beyond_ascends (Some b) p e = rw e

abbrev ended : Place → ℕ → Option Ended
ended p next = Some (record { place = p; next = next })

-- what is said of the record of an end that is due
record Sort (due : Due) (kind : ℕ) (p : Place) : Type 0 where
  short : length (body_text p) < 65536
  small : kind < 65536
  said : end_due due (kind_of kind) (body_text p) ≡ Some p

module _ (due : Due) (kind : ℕ) (p : Place) (sort : Sort due kind p) (s : List ℕ) (at : ℕ) (rest : List ℕ)
    (here : Here s at (record_text kind (body_text p) ++ rest)) where
  end_here : (b : Option Place) → Beyond le_place b p → end_in due b s (record_at s at) ≡ ended p (at + 4 + length (body_text p))
  end_here b beyond =
      rw (
        record_here s at kind (body_text p) rest here sort.small sort.short,
        body_here s at kind (body_text p) rest here,
        sort.said,
        beyond_ascends b p beyond,
      )

  end_next : Here s (at + 4 + length (body_text p)) rest
  end_next = record_next s at kind (body_text p) rest here

lower_sort : (p : Place) → Lower p → Sort IsLower (lower_kind p) p
unfolding kind_of
lower_sort bot w = record { short = omega arith; small = omega arith; said = refl }
lower_sort top w = absurd w
lower_sort (before v) w = record { short = text_short v w; small = omega arith; said = rw (normal_here v w) }
lower_sort (after v) w = record { short = text_short v w; small = omega arith; said = rw (normal_here v w) }

upper_sort : (p : Place) → Upper p → Sort IsUpper (upper_kind p) p
unfolding kind_of
upper_sort bot w = absurd w
upper_sort top w = record { short = omega arith; small = omega arith; said = refl }
upper_sort (before v) w = record { short = text_short v w; small = omega arith; said = rw (normal_here v w) }
upper_sort (after v) w = record { short = text_short v w; small = omega arith; said = rw (normal_here v w) }

ranges_here : (s : List ℕ) (at : ℕ) (b : Option Place) (T : List (Range Place)) → All Written T → Asc le_place b T →
    Here s at (ranges_text T) → ranges_from (length T) b s at ≡ ranges T
unfolding ranges_from ranges_text
ranges_here s at b [] w asc h = rw (eq-eqb at (length s) (omega (arith, h.size)))
ranges_here s at b (r ∷ T) w asc h =
    let low : Place = r.lo in
    let high : Place = r.hi in
    let l = lower_sort low w.0.lower in
    let u = upper_sort high w.0.upper in
    let rest = upper_text high ++ ranges_text T in
    let middle = at + 4 + length (body_text low) in
    let last = middle + 4 + length (body_text high) in
    let upper : Here s middle rest = end_next IsLower (lower_kind low) low l s at rest h in
    let after_both : Here s last (ranges_text T) =
    end_next IsUpper (upper_kind high) high u s middle (ranges_text T) upper in
    rw (
      end_here IsLower (lower_kind low) low l s at rest h b asc.0,
      end_here IsUpper (upper_kind high) high u s middle (ranges_text T) upper (Some low) asc.1,
      ranges_here s last (Some high) T w.1 asc.2 after_both,
    )

whole : (T : List (Range Place)) → Here (table_text T) 0 (record_text range_count (two_bytes_of (length T)) ++ ranges_text T)
unfolding table_text
whole T = record { left = refl; size = omega arith }

pub reread : (T : List (Range Place)) → All Written T → Asc le_place None T → length T ≤ 17 → table_of (table_text T) ≡ ranges T
unfolding table_of kind_of
reread T w asc few =
    let s = table_text T in
    let count = two_bytes_of (length T) in
    let long = two_long (length T) in
    let h : Here s 0 (record_text range_count count ++ ranges_text T) = whole T in
    let next : Here s 6 (ranges_text T) = rw long at (record_next s 0 range_count count (ranges_text T) h) in
    rw (
      record_here s 0 range_count count (ranges_text T) h (omega arith) (omega (arith, long)),
      long,
      number_here s 0 range_count (length T) (ranges_text T) h (omega (arith, few)),
      le-ltb 17 (length T) few,
      ranges_here s 6 None T w asc next,
    )
