-- The ranges of a table are the longest stretches: any stretch all of whose cuts are held lies inside one range. Assumes nothing.
use Rattle.std.specs.Prelude.{Option, None, Some}
use mathlib.Core.Path.{◌≡◌, refl, sym, ◌∙◌}
use mathlib.Core.List.{List, [], ◌∷◌}
use mathlib.Core.Bool.{Bool, true, false, not, false≢true}
use mathlib.Core.Logic.{inl, inr}
use mathlib.Mathlib.Data.Bool.Basic.{eq-true_of_not-eq-false, eq-false_of_not-eq-true', and_elim_left, and_elim_right}
use Rattle.order.specs.All.{All}
use Rattle.order.specs.Preorder.{TotalPreorder, Bounded}
use Rattle.order.proofs.Preorder.{le_refl, lt_le_trans}
use Rattle.ranges.specs.Range.{Range, within, mem}
use Rattle.ranges.specs.Shape.{Shape, Proper, all}
use Rattle.ranges.specs.Compile.{table}
use Rattle.ranges.specs.Table.{Asc, Covered}
use Rattle.ranges.proofs.Member.{mem_table}
use Rattle.ranges.proofs.Ascend.{table_asc}
use Rattle.ranges.proofs.Unique.{mem_past, mem_end, mem_from}

module _ {P : Type 0} {le : P → P → Bool} (L : TotalPreorder le) (lo hi : P) (filled : le hi lo ≡ false) where
  -- a stretch that is not empty holds its lower end
  within_start : within le lo hi lo ≡ true
  within_start = rw (le_refl L lo, filled)

  pub longest : (b : Option P) (T : List (Range P)) → Asc le b T → ((c : P) → within le lo hi c ≡ true → mem le T c ≡ true)
      → Covered le lo hi T
  longest b [] a m = false≢true (m lo within_start)
  longest b (r ∷ T) a m = go (le r.hi lo) refl (longest (Some r.hi) T a.2)
    where
      -- the stretch starts past r: r does not count
      later : le r.hi lo ≡ true → (c : P) → within le lo hi c ≡ true → mem le T c ≡ true
      later e c w = sym (mem_past le r T c (L.trans e (and_elim_left (le lo c) (not (le hi c)) w))) ∙ m c w

      -- the stretch starts in r: if it went past r, it would hold r's end
      stops : le r.hi lo ≡ false → le hi r.hi ≡ true
      stops e = eq-true_of_not-eq-false (λ h. false≢true (sym (mem_end L b r T a) ∙ m r.hi (rw (L.total e, h))))

      go : (q : Bool) → le r.hi lo ≡ q → (((c : P) → within le lo hi c ≡ true → mem le T c ≡ true) → Covered le lo hi T)
          → Covered le lo hi (r ∷ T)
      go true e rest = inr (rest (later e))
      go false e rest = inl (mem_from L b r T a lo (m lo within_start), stops e)

-- the same of a table: any stretch that all shapes accept lies inside one of its ranges
pub table_longest : {P : Type 0} {le : P → P → Bool} (L : TotalPreorder le) {bot top : P} (B : Bounded le bot top)
    (ss : List (Shape P)) → All (Proper le) ss → (lo hi : P) → le hi lo ≡ false
    → ((c : P) → within le lo hi c ≡ true → all le ss c ≡ true) → Covered le lo hi (table le bot top ss)
table_longest {P} {le} L {bot} {top} B ss p lo hi filled m =
    longest L lo hi filled None (table le bot top ss) (table_asc L B ss p) (λ c w. mem_table L B ss c (under c w) ∙ m c w)
  where
    under : (c : P) → within le lo hi c ≡ true → le top c ≡ false
    under c w = lt_le_trans L (eq-false_of_not-eq-true' (and_elim_right (le lo c) (not (le hi c)) w)) (B.greatest hi)
