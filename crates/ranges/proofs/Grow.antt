-- A turn of a loop: one range more to clip, one shape more to compile, each at the end of those that came before. Assumes nothing.
use mathlib.Core.Path.{◌≡◌, refl, sym}
use mathlib.Core.List.{List, [], ◌∷◌, ◌++◌}
use mathlib.Core.Bool.{Bool}
use Rattle.ranges.specs.Range.{Range}
use Rattle.ranges.specs.Shape.{Shape}
use Rattle.ranges.specs.Compile.{narrow, keep, clip, step, compile}
use Rattle.ranges.proofs.Truth.{cond_map}

module _ {P : Type 0} (le : P → P → Bool) where
  keep_append : (r : Range P) (T U : List (Range P)) → keep le r T ++ U ≡ keep le r (T ++ U)
  keep_append r T U = cond_map (λ (l : List (Range P)). l ++ U) (le r.hi r.lo) T (r ∷ T)

  clip_append : (lo hi : P) (T U : List (Range P)) → clip le lo hi (T ++ U) ≡ clip le lo hi T ++ clip le lo hi U
  clip_append lo hi [] U = refl
  clip_append lo hi (r ∷ T) U = rw (clip_append lo hi T U) (sym (keep_append (narrow le lo hi r) (clip le lo hi T) (clip le lo hi U)))

  pub clip_snoc : (lo hi : P) (T : List (Range P)) (r : Range P)
      → clip le lo hi (T ++ (r ∷ [])) ≡ clip le lo hi T ++ keep le (narrow le lo hi r) []
  clip_snoc lo hi T r = clip_append lo hi T (r ∷ [])

  pub compile_snoc : (bot top : P) (T : List (Range P)) (ss : List (Shape P)) (s : Shape P)
      → compile le bot top T (ss ++ (s ∷ [])) ≡ step le bot top s (compile le bot top T ss)
  compile_snoc bot top T [] s = refl
  compile_snoc bot top T (x ∷ ss) s = compile_snoc bot top (step le bot top x T) ss s
