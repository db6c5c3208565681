-- The table is what is asked for, and nothing else is: two tables with the same ends, each a first one, are equal to the letter.
-- Assumes nothing.
use mathlib.Core.Path.{◌≡◌, refl, ap₂}
use mathlib.Core.List.{List, [], ◌∷◌, map}
use mathlib.Core.Bool.{Bool}
use Rattle.order.specs.All.{All}
use Rattle.order.specs.Preorder.{TotalPreorder, Bounded}
use Rattle.ranges.specs.Range.{Range}
use Rattle.ranges.specs.Shape.{Shape, Proper, lower_end, upper_end}
use Rattle.ranges.specs.Compile.{table}
use Rattle.ranges.specs.Table.{first, IsFirst, Firsts, Alike, SameEnds, IsTable}
use Rattle.ranges.proofs.Truth.{same_test}
use Rattle.ranges.proofs.Member.{mem_table}
use Rattle.ranges.proofs.Ascend.{table_asc}
use Rattle.ranges.proofs.Unique.{table_unique}
use Rattle.ranges.proofs.First.{table_first}

module _ {P : Type 0} {le : P → P → Bool} (L : TotalPreorder le) where
  -- what equals the one of two equals the other, so the first that does is the same
  first_alike : (a b : P) → Alike le a b → (l : List P) → first le a l ≡ first le b l
  first_alike a b e [] = refl
  first_alike a b e (x ∷ l) =
      rw (
        same_test (le x a) (le x b) (λ h. L.trans h e.0) (λ h. L.trans h e.1),
        same_test (le a x) (le b x) (λ h. L.trans e.1 h) (λ h. L.trans e.0 h),
        first_alike a b e l,
      )

  firsts_equal : (l : List P) (a b : P) → Alike le a b → IsFirst le l a → IsFirst le l b → a ≡ b
  firsts_equal l a b e f g = let h : first le a l ≡ first le b l = first_alike a b e l in cc

  -- tables with the same ends, each a first one, are equal
  same_table : (bot top : P) (ss : List (Shape P)) (T U : List (Range P)) → SameEnds le T U
      → Firsts le bot top ss T → Firsts le bot top ss U → T ≡ U
  same_table bot top ss [] [] s f g = refl
  same_table bot top ss [] (u ∷ U) s f g = absurd s
  same_table bot top ss (t ∷ T) [] s f g = absurd s
  same_table bot top ss (t ∷ T) (u ∷ U) s f g =
      let p : t.lo ≡ u.lo = firsts_equal (bot ∷ map lower_end ss) t.lo u.lo s.0 f.0.0 g.0.0 in
      let q : t.hi ≡ u.hi = firsts_equal (top ∷ map upper_end ss) t.hi u.hi s.1 f.0.1 g.0.1 in
      ap₂ ◌∷◌ (λ i. record { lo = p i; hi = q i }) (same_table bot top ss T U s.2 f.1 g.1)

  module _ {bot top : P} (B : Bounded le bot top) (ss : List (Shape P)) (p : All (Proper le) ss) where
    pub is_table : IsTable le bot top ss (table le bot top ss)
    is_table = record { ascends = table_asc L B ss p; holds = mem_table L B ss; firsts = table_first L B ss p }

    pub one_table : (T : List (Range P)) → IsTable le bot top ss T → T ≡ table le bot top ss
    one_table T t =
        same_table bot top ss T (table le bot top ss)
        (table_unique L B ss p T t.ascends t.holds) t.firsts (table_first L B ss p)
