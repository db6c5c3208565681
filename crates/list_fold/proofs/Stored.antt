-- Rows one after the other: each is found again at its number, and two more are added after them.
-- Assumes nothing.
use mathlib.Core.Path.{◌≡◌, refl}
use mathlib.Core.List.{List, [], ◌∷◌, ◌++◌, append_assoc}
use Prim.Native.Nat.{ℕ, zero, suc, ◌+◌, ◌*◌, ◌≤◌, ◌<◌}
use native.Mathlib.Decide.{ℕ_discrete}
use native.Mathlib.Omega.{arith}
use lib.ListN.{length, length-append, drop, take-append-drop}
use lib.Seq.{paste, take-paste, length-paste, take_all, take_at, drop_at}
use Rattle.ranges.specs.Cut.{bot, top, before, after}
use Rattle.list_ends.specs.Cut.{Place, le_place}
use Rattle.list_fold.specs.Row.{version_row, key_row, Short, rows_to, row_at, le_row, Rows, EndsPut}
use Rattle.version_rows.specs.Row.{row_of}
use Rattle.version_rows.proofs.Compared.{row_long as numbers-long}
use Rattle.version_reading.specs.Value.{Value}
use Rattle.list_fold.proofs.Compared.{rows_compare}

version_row_long : (side : ℕ) (v : Value) → length v.release ≤ 16 → length (version_row side v) ≡ 24
version_row_long side v h = omega (arith, length-append (row_of v) (side ∷ []), numbers-long v h)

row_long : (p : Place) → Short p → length (key_row p) ≡ 24
unfolding key_row
row_long bot h = refl
row_long top h = refl
row_long (before v) h = version_row_long 0 v h
row_long (after v) h = version_row_long 1 v h

module _ (f : ℕ → Place) where
  rows_long : (m : ℕ) → ((n : ℕ) → n < m → Short (f n)) → length (rows_to f m) ≡ 24 * m
  unfolding rows_to
  rows_long zero s = refl
  rows_long (suc m) s =
      omega (
        arith,
        length-append (rows_to f m) (key_row (f m)),
        rows_long m (λ n h. s n (omega arith)),
        row_long (f m) (s m (omega arith)),
      )

  row_found : (m n : ℕ) → ((k : ℕ) → k < m → Short (f k)) → n < m → (rest : List ℕ) → row_at (rows_to f m ++ rest) n ≡ key_row (f n)
  unfolding rows_to row_at
  row_found zero n s h rest = absurd (omega arith)
  row_found (suc m) n s h rest =
      rw (append_assoc (rows_to f m) (key_row (f m)) rest)
      (elim (ℕ_discrete n m) [
        | yes e ↦
            rw (e, drop_at (rows_to f m) (key_row (f m) ++ rest) (24 * m) (rows_long m (λ k j. s k (omega arith))))
            (take_at (key_row (f m)) rest 24 (row_long (f m) (s m (omega arith))))
        | no e ↦ row_found m n (λ k j. s k (omega arith)) (omega arith) (key_row (f m) ++ rest)
      ])

  module _ (m : ℕ) (rows : List ℕ) (R : Rows f m rows) where
    row_is : (n : ℕ) → n < m → row_at rows n ≡ key_row (f n)
    row_is n h =
        rw (← take-append-drop (24 * m) rows, R.are)
        (row_found m n R.short h (drop (24 * m) rows))

    pub rows_agree : (a b : ℕ) → a < m → b < m → le_row rows a b ≡ le_place (f a) (f b)
    rows_agree a b h k = rw (row_is a h, row_is b k) (rows_compare (f a) (f b) (R.short a h) (R.short b k))

    pub rows_more : 24 * suc m ≤ length rows → Short (f m) → Rows f (suc m) (paste rows (24 * m) (key_row (f m)) 24)
    unfolding rows_to
    rows_more h s =
        let long = row_long (f m) s in
        let width : 24 * suc m ≡ 24 * m + 24 = omega arith in
        record {
          are = rw (width, take-paste rows (24 * m) (key_row (f m)) 24 (omega arith) (omega arith), take_all 24 (key_row (f m)) (omega arith), R.are);
          short = λ n k. elim (ℕ_discrete n m) [ yes e ↦ rw e s | no e ↦ R.short n (omega arith) ];
        }

-- the rows go on with those of the two places
pub rows_go_on : (f : ℕ → Place) (m : ℕ) (p q : Place) (old new : List ℕ) → Rows f m old → 24 * m + 48 ≤ length old → EndsPut m p q old new
    → f m ≡ p → f (suc m) ≡ q → Rows f (suc (suc m)) new
rows_go_on f m p q old new R h put e g =
    let one = rows_more f m old R (omega arith) (rw e put.first) in
    let long = row_long (f m) (rw e put.first) in
    let there = length-paste old (24 * m) (key_row (f m)) 24 (omega arith) (omega arith) in
    let two = rows_more f (suc m) _ one (omega arith) (rw g put.second) in
    rw (put.is, ← e, ← g) two
