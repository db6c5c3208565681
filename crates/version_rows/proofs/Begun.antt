-- A row begins with another exactly if its version matches the other's prefix.
-- Assumes nothing.
use mathlib.Core.Path.{◌≡◌, ◌∙◌, ap}
use mathlib.Core.Bool.{Bool, ◌&&◌}
use mathlib.Core.List.{List, ◌++◌}
use Prim.Native.Nat.{ℕ, ◌+◌, ◌-◌, ◌≤◌, min}
use native.Mathlib.Numerals.{add-one}
use native.Mathlib.Omega.{arith}
use lib.Dec.{eqb}
use lib.ListN.{length, take, replicate, length-take}
use lib.Seq.{take-append-le, take-length}
use Rattle.version_reading.specs.Value.{Value}
use Rattle.version_order.specs.Versions.{key}
use Rattle.version_prefix.specs.Prefix.{begins, prefix_matches, cut_to, shorter}
use Rattle.version_prefix.proofs.Beginnings.{begins_continued, begins_front}
use Rattle.version_rows.specs.Row.{key_numbers, sixteen, row_of, RowOf, row_begins}
use Rattle.version_rows.proofs.Compared.{sixteen_long}

-- the way of `row_begins`
pub begun : (prefix row : List ℕ) (count n : ℕ) (r : Bool) → n ≡ min count 16 → r ≡ begins (take (n + 1) prefix) row → r ≡ row_begins count prefix row
unfolding row_begins
begun prefix row count n r e f = rw (← e, ← add-one n) f

module _ (v w : Value) (h : length v.release ≤ 16) (k : length w.release ≤ 16) where
  pub rows_begin : (count : ℕ) → count ≤ length v.release → row_begins count (row_of v) (row_of w) ≡ prefix_matches (cut_to count v) w
  unfolding row_begins row_of prefix_matches
  rows_begin count m =
      let n : min count 16 ≡ count = omega arith in
      let front : take count (sixteen v.release ++ key_numbers (key v)) ≡ take count v.release =
      take-append-le count (sixteen v.release) (key_numbers (key v)) (omega (arith, sixteen_long v.release h))
      ∙ take-append-le count v.release (replicate (16 - length v.release) 0) m in
      let few : length (take count v.release) ≤ length (sixteen w.release) =
      omega (arith, length-take count v.release, sixteen_long w.release k) in
      rw (n, front)
      (ap (◌&&◌ (eqb v.epoch w.epoch))
      (begins_front (take count v.release) (sixteen w.release) (key_numbers (key w)) few
      ∙ begins_continued (take count v.release) w.release (16 - length w.release)))

  -- the whole release
  pub rows_match : row_begins (length v.release) (row_of v) (row_of w) ≡ prefix_matches v w
  unfolding prefix_matches
  rows_match =
      rows_begin (length v.release) (omega arith)
      ∙ ap (λ l. eqb v.epoch w.epoch && begins l w.release) (take-length v.release)

  -- all but its last number
  pub rows_match_shorter : row_begins (length v.release - 1) (row_of v) (row_of w) ≡ prefix_matches (shorter v) w
  rows_match_shorter = rows_begin (length v.release - 1) (omega arith)

-- the same of rows that were made, `count` being how many release numbers v has
module _ (v w : Value) (a b : List ℕ) (p : RowOf v a) (q : RowOf w b) (count : ℕ) (all : count ≡ length v.release) where
  pub made_match : row_begins count a b ≡ prefix_matches v w
  made_match = rw (p.is, q.is, all) (rows_match v w p.few q.few)

  pub made_match_shorter : row_begins (count - 1) a b ≡ prefix_matches (shorter v) w
  made_match_shorter = rw (p.is, q.is, all) (rows_match_shorter v w p.few q.few)
