-- A table made over names of ends is, name by name, the table over the ends: where the names compare as the ends do, the code may work on
-- the names. Assumes nothing.
use mathlib.Core.Path.{◌≡◌, refl, ◌∙◌, ap₂}
use mathlib.Core.List.{List, [], ◌∷◌, map, map-append}
use mathlib.Core.Bool.{Bool}
use Rattle.ranges.specs.Range.{Range}
use Rattle.ranges.specs.Shape.{Shape, span, hole}
use Rattle.ranges.specs.Compile.{tighter, narrow, keep, clip, step, compile, table}
use Rattle.ranges.specs.Map.{map_range, map_shape}
use Rattle.ranges.proofs.Truth.{cond_map}

module _ {P Q : Type 0} (f : P → Q) where
  tighter_map : (le : P → P → Bool) (le' : Q → Q → Bool) (new old : P) → le new old ≡ le' (f new) (f old)
      → f (tighter le new old) ≡ tighter le' (f new) (f old)
  tighter_map le le' new old e = rw (← e) (cond_map f (le new old) old new)

  module _ (le : P → P → Bool) (le' : Q → Q → Bool) (same : (a b : P) → le a b ≡ le' (f a) (f b)) where
    narrow_map : (lo hi : P) (r : Range P) → map_range f (narrow le lo hi r) ≡ narrow le' (f lo) (f hi) (map_range f r)
    narrow_map lo hi r =
        let p = tighter_map le le' lo r.lo (same lo r.lo) in
        let q = tighter_map (λ a b. le b a) (λ a b. le' b a) hi r.hi (same r.hi hi) in
        λ i. record { lo = p i; hi = q i }

    keep_map : (r : Range P) (T : List (Range P)) → map (map_range f) (keep le r T) ≡ keep le' (map_range f r) (map (map_range f) T)
    keep_map r T = rw (← same r.hi r.lo) (cond_map (map (map_range f)) (le r.hi r.lo) T (r ∷ T))

    clip_map : (lo hi : P) (T : List (Range P)) → map (map_range f) (clip le lo hi T) ≡ clip le' (f lo) (f hi) (map (map_range f) T)
    clip_map lo hi [] = refl
    clip_map lo hi (r ∷ T) = keep_map (narrow le lo hi r) (clip le lo hi T) ∙ ap₂ (keep le') (narrow_map lo hi r) (clip_map lo hi T)

    module _ (bot top : P) where
      step_map : (s : Shape P) (T : List (Range P))
          → map (map_range f) (step le bot top s T) ≡ step le' (f bot) (f top) (map_shape f s) (map (map_range f) T)
      step_map (span lo hi) T = clip_map lo hi T
      step_map (hole lo hi) T =
          rw (map-append (map_range f) (clip le bot lo T) (clip le hi top T), clip_map bot lo T, clip_map hi top T)

      compile_map : (ss : List (Shape P)) (T : List (Range P))
          → map (map_range f) (compile le bot top T ss) ≡ compile le' (f bot) (f top) (map (map_range f) T) (map (map_shape f) ss)
      compile_map [] T = refl
      compile_map (s ∷ ss) T = compile_map ss (step le bot top s T) ∙ rw (step_map s T)

      pub table_map : (ss : List (Shape P)) → map (map_range f) (table le bot top ss) ≡ table le' (f bot) (f top) (map (map_shape f) ss)
      table_map ss = compile_map ss (record { lo = bot; hi = top } ∷ [])
