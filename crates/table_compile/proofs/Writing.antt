-- The ranges of a table, as they are written one by one.
-- Assumes nothing.
use Rattle.std.specs.Prelude.{Ok}
use mathlib.Core.Path.{◌≡◌, sym, ◌∙◌, ap}
use mathlib.Core.List.{List, [], ◌∷◌, ◌++◌, map, map-append, append_assoc, append-nil}
use Prim.Native.Nat.{ℕ, suc, ◌+◌, ◌^◌, ◌≤◌, ◌<◌}
use native.Mathlib.Numerals.{add-one}
use native.Mathlib.Omega.{arith}
use lib.ListN.{length, take, get_or, length-map}
use lib.Seq.{take_all}
use Rattle.answers.specs.Printed.{Printed}
use Rattle.decimal.specs.Put.{Wrote, Put}
use Rattle.decimal.proofs.Puts.{nothing, then, retext, whole, printed}
use Rattle.records.specs.Record.{two_bytes_of, record_text}
use Rattle.ranges.specs.Range.{Range}
use Rattle.ranges.specs.Map.{map_range}
use Rattle.list_ends.specs.declared.end.End.{End}
use Rattle.list_ends.specs.Cut.{Place}
use Rattle.table_reading.specs.Kind.{range_count}
use Rattle.list_ends.specs.End.{place_of, EndIs}
use Rattle.list_ends.specs.Number.{place_number}
use Rattle.table_reading.specs.Text.{lower_kind, upper_kind, lower_text, upper_text, ranges_text, table_text}
use Rattle.table_compile.specs.Body.{end_text}
use Rattle.list_fold.specs.declared.numbered_ranges.NumberedRange.{NumberedRange}
use Rattle.list_fold.specs.Ranges.{range_of}
use Rattle.list_fold.proofs.Parts.{said_suc}
use Rattle.table_compile.specs.Said.{said_by}
use Rattle.table_compile.proofs.Bodies.{end_body}

abbrev between : Place → Place → Range Place
between lo hi = record { lo = lo; hi = hi }

abbrev range_text : Place → Place → List ℕ
range_text lo hi = lower_text lo ++ upper_text hi

ranges_snoc : (T : List (Range Place)) (lo hi : Place) → ranges_text (T ++ (between lo hi ∷ [])) ≡ ranges_text T ++ range_text lo hi
unfolding ranges_text
ranges_snoc [] lo hi = rw append-nil
ranges_snoc (r ∷ T) lo hi = rw (ranges_snoc T lo hi) (simp append_assoc)

module _ (s : List ℕ) (l : List NumberedRange) where
  said_snoc : (i : ℕ) (blank : NumberedRange) → i < length l → said_by s (take (suc i) l) ≡
      said_by s (take i l) ++ (between (place_number s (get_or l i blank).low) (place_number s (get_or l i blank).high) ∷ [])
  said_snoc i blank h =
      ap (map (map_range (place_number s))) (said_suc l i blank h) ∙ map-append (map_range (place_number s)) (map range_of (take i l)) _

  pub ranges_start : {a : List ℕ} {i : ℕ} → length a < 2 ^ 64 → i < 2 ^ 64 → Wrote a i (ranges_text (said_by s (take 0 l))) a i
  unfolding ranges_text
  ranges_start {a} {i} h g = nothing a i h g

  pub ranges_next : {a b c : List ℕ} {at i j k : ℕ} (blank : NumberedRange) → Wrote a at (ranges_text (said_by s (take i l))) b j → i < length l →
      Wrote b j (lower_text (place_number s (get_or l i blank).low) ++ upper_text (place_number s (get_or l i blank).high)) c k →
      Wrote a at (ranges_text (said_by s (take (i + 1) l))) c k
  ranges_next {i = i} blank p h q =
      let x = get_or l i blank in
      let more : ranges_text (said_by s (take i l)) ++ range_text (place_number s x.low) (place_number s x.high) ≡ ranges_text (said_by s (take (suc i) l)) =
      sym (ap ranges_text (said_snoc i blank h) ∙ ranges_snoc (said_by s (take i l)) _ _) in
      retext (more ∙ ap (λ n. ranges_text (said_by s (take n l))) (sym (add-one i))) (then p q)

  pub ranges_done : {a b : List ℕ} {at i j : ℕ} → Wrote a at (ranges_text (said_by s (take i l))) b j → length l ≤ i →
      Wrote a at (ranges_text (said_by s l)) b j
  ranges_done {i = i} p h = rw (take_all i l h) at p

  pub table_put : {a b c : List ℕ} {i j k : ℕ} → Wrote a i (record_text range_count (two_bytes_of (length l))) b j →
      Wrote b j (ranges_text (said_by s l)) c k → Wrote a i (table_text (said_by s l)) c k
  unfolding table_text
  table_put p q =
      let size : length (said_by s l) ≡ length l = length-map (map range_of l) (map_range (place_number s)) ∙ length-map l range_of in
      rw size (then p q)

-- one range, by the numbers of its ends
module _ (s : List ℕ) (low high : ℕ) (lower upper : End) (e : EndIs (place_number s low) 16 lower) (f : EndIs (place_number s high) 16 upper) where
  pub range_put : (lk uk i j k : ℕ) (a b c : List ℕ) → lk ≡ lower_kind (place_of lower) → uk ≡ upper_kind (place_of upper) →
      Wrote a i (record_text lk (end_text lower)) b j → Wrote b j (record_text uk (end_text upper)) c k →
      Wrote a i (lower_text (place_number s low) ++ upper_text (place_number s high)) c k
  range_put lk uk i j k a b c g h p q =
      let lower-is : record_text lk (end_text lower) ≡ lower_text (place_number s low) = rw (g, e.is, end_body lower e) in
      let upper_is : record_text uk (end_text upper) ≡ upper_text (place_number s high) = rw (h, f.is, end_body upper f) in
      then (retext lower-is p) (retext upper_is q)

-- a table that has room is written with no first run: the run itself tells its length
pub at_once : (room r : ℕ) (text buf new : List ℕ) → length text ≤ room → room ≤ length buf → Put 35677192 buf 0 text new r →
    Printed text buf new (Ok r)
at_once room r text buf new h k p =
    let all = whole 35677192 text buf new r p (omega arith) in printed 35677192 text buf new r p (omega arith) buf new r p (omega arith)
