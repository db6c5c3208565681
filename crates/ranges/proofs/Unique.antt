-- Two ascending lists of ranges that hold the same cuts have the same ends, up to equality in order: the first lower ends are at most each
-- other, then the first upper ends, and then the rests hold the same cuts. Assumes nothing.
use Rattle.std.specs.Prelude.{Option, None, Some}
use mathlib.Core.Path.{◌≡◌, refl, sym, ◌∙◌}
use mathlib.Core.List.{List, [], ◌∷◌}
use mathlib.Core.Bool.{Bool, true, false, and-false, false≢true}
use mathlib.Mathlib.Data.Bool.Basic.{eq-true_of_not-eq-false}
use Rattle.order.specs.All.{All}
use Rattle.order.specs.Preorder.{TotalPreorder, Bounded}
use Rattle.order.proofs.Preorder.{le_refl, le_lt_trans}
use Rattle.ranges.specs.Range.{Range, mem}
use Rattle.ranges.specs.Shape.{Shape, Proper, all}
use Rattle.ranges.specs.Compile.{table}
use Rattle.ranges.specs.Table.{Asc, SameEnds}
use Rattle.ranges.proofs.Member.{mem_table}
use Rattle.ranges.proofs.Ascend.{table_asc}

-- from its upper end on a range does not count
pub mem_past : {P : Type 0} (le : P → P → Bool) (r : Range P) (T : List (Range P)) (c : P) → le r.hi c ≡ true
    → mem le (r ∷ T) c ≡ mem le T c
mem_past le r T c h = rw (h, and-false (le r.lo c))

module _ {P : Type 0} {le : P → P → Bool} (L : TotalPreorder le) where
  -- ranges that ascend above b hold nothing up to b
  mem_below : (b c : P) → le c b ≡ true → (T : List (Range P)) → Asc le (Some b) T → mem le T c ≡ false
  mem_below b c h [] a = refl
  mem_below b c h (r ∷ T) a =
      rw (le_lt_trans L h a.0) (mem_below r.hi c (L.trans h (L.trans (L.total a.0) (L.total a.1))) T a.2)

  -- the upper end of the first range is not held
  pub mem_end : (b : Option P) (r : Range P) (T : List (Range P)) → Asc le b (r ∷ T) → mem le (r ∷ T) r.hi ≡ false
  mem_end b r T a = mem_past le r T r.hi (le_refl L r.hi) ∙ mem_below r.hi r.hi (le_refl L r.hi) T a.2

  -- the first lower end is held, and nothing below it
  mem_start : (b : Option P) (r : Range P) (T : List (Range P)) → Asc le b (r ∷ T) → mem le (r ∷ T) r.lo ≡ true
  mem_start b r T a = rw (le_refl L r.lo, a.1)

  pub mem_from : (b : Option P) (r : Range P) (T : List (Range P)) → Asc le b (r ∷ T) → (c : P) → mem le (r ∷ T) c ≡ true
      → le r.lo c ≡ true
  mem_from b r T a c m = eq-true_of_not-eq-false (λ e.
      let n : mem le (r ∷ T) c ≡ false = rw e (mem_below r.hi c (L.trans (L.total e) (L.total a.1)) T a.2) in
      false≢true (sym n ∙ m))

  -- if u starts by the start of t, and the lists agree on the upper end of t, then u stops by that end: otherwise it would hold it
  stops_by : (b : Option P) (t u : Range P) (T U : List (Range P)) → Asc le b (t ∷ T) → le u.lo t.lo ≡ true
      → mem le (t ∷ T) t.hi ≡ mem le (u ∷ U) t.hi → le u.hi t.hi ≡ true
  stops_by b t u T U a l m = eq-true_of_not-eq-false (λ e.
      let held : mem le (u ∷ U) t.hi ≡ true = rw (L.trans l (L.total a.1), e) in
      false≢true (sym (mem_end b t T a) ∙ m ∙ held))

  pub unique : (b d : Option P) (T U : List (Range P)) → Asc le b T → Asc le d U → ((c : P) → mem le T c ≡ mem le U c) → SameEnds le T U
  unique b d [] [] a u m = tt
  unique b d [] (y ∷ U) a u m = false≢true (m y.lo ∙ mem_start d y U u)
  unique b d (x ∷ T) [] a u m = false≢true (sym (m x.lo) ∙ mem_start b x T a)
  unique b d (x ∷ T) (y ∷ U) a u m =
      let xy : le x.lo y.lo ≡ true = mem_from b x T a y.lo (m y.lo ∙ mem_start d y U u) in
      let yx : le y.lo x.lo ≡ true = mem_from d y U u x.lo (sym (m x.lo) ∙ mem_start b x T a) in
      let h : le y.hi x.hi ≡ true = stops_by b x y T U a yx (m x.hi) in
      let k : le x.hi y.hi ≡ true = stops_by d y x U T u xy (sym (m y.hi)) in
      ((xy, yx), (k, h), unique (Some x.hi) (Some y.hi) T U a.2 u.2 (λ c. rests h k c (le x.hi c) refl))
    where
      rests : le y.hi x.hi ≡ true → le x.hi y.hi ≡ true → (c : P) (q : Bool) → le x.hi c ≡ q → mem le T c ≡ mem le U c
      rests h k c true e = sym (mem_past le x T c e) ∙ m c ∙ mem_past le y U c (L.trans h e)
      rests h k c false e = mem_below x.hi c (L.total e) T a.2 ∙ sym (mem_below y.hi c (L.trans (L.total e) k) U u.2)

  module _ {bot top : P} (B : Bounded le bot top) where
    -- no range holds top
    mem_top : (c : P) → le top c ≡ true → (T : List (Range P)) → mem le T c ≡ false
    mem_top c h [] = refl
    mem_top c h (r ∷ T) = mem_past le r T c (L.trans (B.greatest r.hi) h) ∙ mem_top c h T

    -- ascending ranges that hold exactly what all shapes accept are the table, but for the choice between equal ends
    pub table_unique : (ss : List (Shape P)) → All (Proper le) ss → (T : List (Range P)) → Asc le None T
        → ((c : P) → le top c ≡ false → mem le T c ≡ all le ss c) → SameEnds le T (table le bot top ss)
    table_unique ss p T a m = unique None None T (table le bot top ss) a (table_asc L B ss p) (λ c. each c (le top c) refl)
      where
        each : (c : P) (q : Bool) → le top c ≡ q → mem le T c ≡ mem le (table le bot top ss) c
        each c true e = mem_top c e T ∙ sym (mem_top c e (table le bot top ss))
        each c false e = m c e ∙ sym (mem_table L B ss c e)
