-- The ways out of `row_at`, `at_most` and of the choice between two ends.
-- Assumes nothing.
use mathlib.Core.Path.{◌≡◌, refl, ◌∙◌, ap}
use mathlib.Core.Bool.{Bool, true, false}
use mathlib.Core.List.{List}
use Prim.Native.Nat.{ℕ, ◌+◌, ◌*◌, ◌-◌, ◌≤◌, ◌<◌, compare}
use native.Mathlib.Omega.{arith}
use lib.ListN.{length, take, drop}
use Rattle.chars.proofs.Parts.{part_past, part_over}
use Rattle.order.specs.Ordering.{Ordering, lt, eq, gt, is_le}
use Rattle.order.specs.Compare.{padded}
use Rattle.order.specs.Answer.{name_of}
use Rattle.std.specs.declared.cmp.Ordering.{Ordering as Order}
use Rattle.std.specs.Ordering.{is_le as says_le}
use Rattle.ranges.specs.Compile.{tighter}
use Rattle.list_fold.specs.Row.{row_at, le_row}

module _ (rows : List ℕ) (number : ℕ) where
  pub row_past : (start : ℕ) → start ≡ 24 * number → length rows ≤ start → take 0 rows ≡ row_at rows number
  unfolding row_at
  row_past start e h = part_past rows (24 * number) 24 (omega arith)

  pub row_there : (start end : ℕ) → start ≡ 24 * number → end ≡ start + 24 → take (end - start) (drop start rows) ≡ row_at rows number
  unfolding row_at
  row_there start end e f = let width : end - start ≡ 24 = omega arith in rw (width, e)

  pub row_cut : (start end : ℕ) → start ≡ 24 * number → end ≡ start + 24 → length rows < end
      → take (length rows - start) (drop start rows) ≡ row_at rows number
  row_cut start end e f h = part_over rows start end h ∙ row_there start end e f

by_name : (o : Ordering) → says_le (name_of o) ≡ is_le o
by_name lt = refl
by_name eq = refl
by_name gt = refl

-- x and y are the rows a and b
pub rows_le : (rows x y : List ℕ) (a b : ℕ) (r : Order) (q : Bool) → x ≡ row_at rows a → y ≡ row_at rows b → r ≡ name_of (padded compare 0 x y) →
    q ≡ says_le r → q ≡ le_row rows a b
rows_le rows x y a b r q e f g h = h ∙ ap says_le g ∙ rw (e, f) (by_name (padded compare 0 (row_at rows a) (row_at rows b)))

-- the choice between two lower ends
module _ (le : ℕ → ℕ → Bool) (new old : ℕ) (test : Bool) (e : test ≡ le new old) where
  pub old_stays : test ≡ true → old ≡ tighter le new old
  old_stays f = rw (← e, f)

  pub new_comes : test ≡ false → new ≡ tighter le new old
  new_comes f = rw (← e, f)
