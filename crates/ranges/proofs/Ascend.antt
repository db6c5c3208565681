-- The ranges of a table ascend and stay apart: clipping keeps that, and so does putting what lies above a hole after what lies below it.
-- Assumes nothing.
use Rattle.std.specs.Prelude.{Option, None, Some}
use mathlib.Core.Path.{◌≡◌}
use mathlib.Core.List.{List, [], ◌∷◌, ◌++◌}
use mathlib.Core.Bool.{Bool, true}
use Rattle.order.specs.All.{All}
use Rattle.order.specs.Preorder.{TotalPreorder, Bounded}
use Rattle.order.proofs.Preorder.{le_lt_trans, lt_le_trans}
use Rattle.ranges.specs.Range.{Range}
use Rattle.ranges.specs.Shape.{Shape, span, hole, Proper}
use Rattle.ranges.specs.Compile.{narrow, clip, step, compile, table}
use Rattle.ranges.specs.Table.{Beyond, Asc}
use Rattle.ranges.proofs.Clip.{keep_cases, old_lower, new_lower, old_upper, new_upper}

module _ {P : Type 0} {le : P → P → Bool} (L : TotalPreorder le) where
  beyond_up : (b : Option P) {x y : P} → Beyond le b x → le x y ≡ true → Beyond le b y
  beyond_up None h e = tt
  beyond_up (Some b) h e = lt_le_trans L h e

  -- clipped ranges ascend above d, if narrowing lifts every range above b to above d
  clip_asc_above : (lo hi : P) (b d : Option P) → ((r : Range P) → Beyond le b r.lo → Beyond le d (narrow le lo hi r).lo)
      → (T : List (Range P)) → Asc le b T → Asc le d (clip le lo hi T)
  clip_asc_above lo hi b d f [] a = tt
  clip_asc_above lo hi b d f (r ∷ T) a =
      keep_cases le (Asc le d) (narrow le lo hi r) (clip le lo hi T)
      (λ e. clip_asc_above lo hi (Some r.hi) d (λ s h. f s (beyond_up b a.0 (L.trans (L.total a.1) (L.total h)))) T a.2)
      (λ e. (
        f r a.0,
        e,
        clip_asc_above lo hi (Some r.hi) (Some (narrow le lo hi r).hi)
            (λ s h. le_lt_trans L (old_upper L lo hi r) (lt_le_trans L h (old_lower L lo hi s))) T a.2,
      ))

  pub clip_asc : (lo hi : P) (b : Option P) (T : List (Range P)) → Asc le b T → Asc le b (clip le lo hi T)
  clip_asc lo hi b T a = clip_asc_above lo hi b b (λ r h. beyond_up b h (old_lower L lo hi r)) T a

  -- none of the clipped ranges goes past the upper end
  clip_below : (lo hi : P) (T : List (Range P)) → All (λ r. le r.hi hi ≡ true) (clip le lo hi T)
  clip_below lo hi [] = tt
  clip_below lo hi (r ∷ T) =
      let rest : All (λ r. le r.hi hi ≡ true) (clip le lo hi T) = clip_below lo hi T in
      keep_cases le (All (λ r. le r.hi hi ≡ true)) (narrow le lo hi r) (clip le lo hi T) (λ e. rest) (λ e. (new_upper L lo hi r, rest))

  -- what ascends above y ascends above all that is at most y
  pub asc_lower : {x y : P} → le x y ≡ true → (T : List (Range P)) → Asc le (Some y) T → Asc le (Some x) T
  asc_lower e [] a = tt
  asc_lower e (r ∷ T) a = (le_lt_trans L e a.0, a.1, a.2)

  -- first ranges none of which goes past c, then ranges above c. The last premise serves where the first are none
  append_asc : (b : Option P) (c : P) (T U : List (Range P)) → Asc le b T → All (λ r. le r.hi c ≡ true) T
      → Asc le (Some c) U → Asc le b U → Asc le b (T ++ U)
  append_asc b c [] U t l u v = v
  append_asc b c (r ∷ T) U t l u v = (t.0, t.1, append_asc (Some r.hi) c T U t.2 l.1 u (asc_lower l.0 U u))

  module _ (bot top : P) where
    pub step_asc : (s : Shape P) → Proper le s → (b : Option P) (T : List (Range P)) → Asc le b T → Asc le b (step le bot top s T)
    step_asc (span lo hi) p b T a = clip_asc lo hi b T a
    step_asc (hole lo hi) p b T a =
        append_asc b lo (clip le bot lo T) (clip le hi top T) (clip_asc bot lo b T a) (clip_below bot lo T)
        (clip_asc_above hi top b (Some lo) (λ r h. lt_le_trans L p (new_lower L hi top r)) T a) (clip_asc hi top b T a)

    compile_asc : (ss : List (Shape P)) → All (Proper le) ss → (T : List (Range P)) → Asc le None T → Asc le None (compile le bot top T ss)
    compile_asc [] p T a = a
    compile_asc (s ∷ ss) p T a = compile_asc ss p.1 (step le bot top s T) (step_asc s p.0 None T a)

  pub table_asc : {bot top : P} → Bounded le bot top → (ss : List (Shape P)) → All (Proper le) ss → Asc le None (table le bot top ss)
  table_asc {bot} {top} B ss p = compile_asc bot top ss p (record { lo = bot; hi = top } ∷ []) (tt, B.apart, tt)
