-- Membership: below top the table of a list of shapes holds exactly the cuts that all shapes accept. Step by step: a narrowed range, a
-- clipped list, one shape, all shapes. Assumes nothing.
use mathlib.Core.Path.{◌≡◌, refl, sym, ◌∙◌}
use mathlib.Core.List.{List, [], ◌∷◌, ◌++◌}
use mathlib.Core.Bool.{Bool, false, ◌&&◌, ◌||◌, and-true, and_comm, or_comm, and_assoc, or_assoc, and-or_distrib_right}
use Rattle.order.specs.Preorder.{TotalPreorder, Bounded}
use Rattle.ranges.specs.Range.{Range, within, mem}
use Rattle.ranges.specs.Shape.{Shape, span, hole, accepts, all}
use Rattle.ranges.specs.Compile.{tighter, narrow, keep, clip, step, compile, table}
use Rattle.ranges.proofs.Truth.{by_test, and_implied, or_implying, none_between, both_within, either_side}
use Rattle.ranges.proofs.Clip.{keep_cases}

module _ {P : Type 0} {le : P → P → Bool} (L : TotalPreorder le) where
  -- a cut is past the greater of two ends if it is past both, and past the smaller if it is past either
  past_greater : (x a c : P) → le (tighter le x a) c ≡ le a c && le x c
  past_greater x a c =
      by_test (λ e. le e c ≡ le a c && le x c) (le x a) a x
      (λ h. and_implied (le a c) (le x c) (L.trans h))
      (λ h. and_implied (le x c) (le a c) (L.trans (L.total h)) ∙ and_comm (le x c) (le a c))

  past_smaller : (x a c : P) → le (tighter (λ a b. le b a) x a) c ≡ le a c || le x c
  past_smaller x a c =
      by_test (λ e. le e c ≡ le a c || le x c) (le a x) a x
      (λ h. or_implying (le a c) (le x c) (L.trans h))
      (λ h. or_implying (le x c) (le a c) (L.trans (L.total h)) ∙ or_comm (le x c) (le a c))

  within_narrow : (lo hi : P) (r : Range P) (c : P)
      → within le (narrow le lo hi r).lo (narrow le lo hi r).hi c ≡ within le r.lo r.hi c && within le lo hi c
  within_narrow lo hi r c =
      rw (past_greater lo r.lo c, past_smaller hi r.hi c) (both_within (le r.lo c) (le lo c) (le r.hi c) (le hi c))

  mem_keep : (r : Range P) (T : List (Range P)) (c : P) → mem le (keep le r T) c ≡ within le r.lo r.hi c || mem le T c
  mem_keep r T c =
      keep_cases le (λ U. mem le U c ≡ within le r.lo r.hi c || mem le T c) r T
      (λ e. rw (none_between (le r.lo c) (le r.hi c) (L.trans e))) (λ e. refl)

  mem_clip : (lo hi : P) (T : List (Range P)) (c : P) → mem le (clip le lo hi T) c ≡ mem le T c && within le lo hi c
  mem_clip lo hi [] c = refl
  mem_clip lo hi (r ∷ T) c =
      rw (mem_keep (narrow le lo hi r) (clip le lo hi T) c, within_narrow lo hi r c, mem_clip lo hi T c)
      (sym (and-or_distrib_right (within le r.lo r.hi c) (mem le T c) (within le lo hi c)))

  mem_append : (T U : List (Range P)) (c : P) → mem le (T ++ U) c ≡ mem le T c || mem le U c
  mem_append [] U c = refl
  mem_append (r ∷ T) U c = rw (mem_append T U c) (sym (or_assoc (within le r.lo r.hi c) (mem le T c) (mem le U c)))

  module _ {bot top : P} (B : Bounded le bot top) where
    mem_step : (s : Shape P) (T : List (Range P)) (c : P) → le top c ≡ false → mem le (step le bot top s T) c ≡ mem le T c && accepts le s c
    mem_step (span lo hi) T c h = mem_clip lo hi T c
    mem_step (hole lo hi) T c h =
        rw (mem_append (clip le bot lo T) (clip le hi top T) c, mem_clip bot lo T c, mem_clip hi top T c, B.least c, h)
        (either_side (mem le T c) (le lo c) (le hi c))

    mem_compile : (ss : List (Shape P)) (T : List (Range P)) (c : P) → le top c ≡ false
        → mem le (compile le bot top T ss) c ≡ mem le T c && all le ss c
    mem_compile [] T c h = sym (and-true (mem le T c))
    mem_compile (s ∷ ss) T c h =
        mem_compile ss (step le bot top s T) c h ∙ rw (mem_step s T c h) (and_assoc (mem le T c) (accepts le s c) (all le ss c))

    -- a look into the table says yes exactly where each shape by itself does
    pub mem_table : (ss : List (Shape P)) (c : P) → le top c ≡ false → mem le (table le bot top ss) c ≡ all le ss c
    mem_table ss c h = mem_compile ss (record { lo = bot; hi = top } ∷ []) c h ∙ rw (B.least c, h)
