-- A table looks at no ends but those of its shapes: its ends are among them, and two tests that agree on them make the same table.
-- Assumes nothing.
use mathlib.Core.Path.{◌≡◌, refl, ◌∙◌, ap₂}
use mathlib.Core.List.{List, [], ◌∷◌, ◌++◌}
use mathlib.Core.Bool.{Bool}
use Rattle.order.specs.All.{All}
use Rattle.order.proofs.Elements.{all_append}
use Rattle.ranges.specs.Range.{Range}
use Rattle.ranges.specs.Shape.{Shape, span, hole, lower_end, upper_end}
use Rattle.ranges.specs.Compile.{tighter, narrow, keep, clip, step, compile, table}
use Rattle.ranges.proofs.Truth.{by_test}
use Rattle.ranges.proofs.Clip.{clip_all}

-- Q holds of both ends
abbrev pub Between : {P : Type 0} → (P → Type 0) → Range P → Type 0
Between Q r = Q r.lo × Q r.hi

abbrev pub Shaped : {P : Type 0} → (P → Type 0) → Shape P → Type 0
Shaped Q s = Q (lower_end s) × Q (upper_end s)

module _ {P : Type 0} (Q : P → Type 0) where
  tighter_in : (le : P → P → Bool) (new old : P) → Q new → Q old → Q (tighter le new old)
  tighter_in le new old p q = by_test Q (le new old) old new (λ e. q) (λ e. p)

  module _ (le : P → P → Bool) where
    clip_in : (lo hi : P) → Q lo → Q hi → (T : List (Range P)) → All (Between Q) T → All (Between Q) (clip le lo hi T)
    clip_in lo hi p q =
        clip_all le (Between Q) (Between Q) lo hi
        (λ r a e. (tighter_in le lo r.lo p a.0, tighter_in (λ a b. le b a) hi r.hi q a.1))

    module _ (bot top : P) (least : Q bot) (greatest : Q top) where
      step_in : (s : Shape P) → Shaped Q s → (T : List (Range P)) → All (Between Q) T → All (Between Q) (step le bot top s T)
      step_in (span lo hi) p T a = clip_in lo hi p.0 p.1 T a
      step_in (hole lo hi) p T a =
          all_append (Between Q) (clip le bot lo T) (clip le hi top T) (clip_in bot lo least p.1 T a) (clip_in hi top p.0 greatest T a)

      compile_in : (ss : List (Shape P)) → All (Shaped Q) ss → (T : List (Range P)) → All (Between Q) T
          → All (Between Q) (compile le bot top T ss)
      compile_in [] p T a = a
      compile_in (s ∷ ss) p T a = compile_in ss p.1 (step le bot top s T) (step_in s p.0 T a)

      pub table_in : (ss : List (Shape P)) → All (Shaped Q) ss → All (Between Q) (table le bot top ss)
      table_in ss p = compile_in ss p (record { lo = bot; hi = top } ∷ []) ((least, greatest), tt)

  module _ (le le' : P → P → Bool) (same : (a b : P) → Q a → Q b → le a b ≡ le' a b) where
    narrow_same : (lo hi : P) → Q lo → Q hi → (r : Range P) → Between Q r → narrow le lo hi r ≡ narrow le' lo hi r
    narrow_same lo hi p q r a = rw (same lo r.lo p a.0, same r.hi hi a.1 q)

    keep_same : (r : Range P) → Between Q r → (T : List (Range P)) → keep le r T ≡ keep le' r T
    keep_same r a T = rw (same r.hi r.lo a.1 a.0)

    clip_same : (lo hi : P) → Q lo → Q hi → (T : List (Range P)) → All (Between Q) T → clip le lo hi T ≡ clip le' lo hi T
    clip_same lo hi p q [] a = refl
    clip_same lo hi p q (r ∷ T) a =
        let part : Between Q (narrow le lo hi r) = (tighter_in le lo r.lo p a.0.0, tighter_in (λ x y. le y x) hi r.hi q a.0.1) in
        keep_same (narrow le lo hi r) part (clip le lo hi T)
        ∙ ap₂ (keep le') (narrow_same lo hi p q r a.0) (clip_same lo hi p q T a.1)

    pub step_same : (bot top : P) → Q bot → Q top → (s : Shape P) → Shaped Q s → (T : List (Range P)) → All (Between Q) T
        → step le bot top s T ≡ step le' bot top s T
    step_same bot top u v (span lo hi) p T a = clip_same lo hi p.0 p.1 T a
    step_same bot top u v (hole lo hi) p T a =
        ap₂ (λ (l m : List (Range P)). l ++ m) (clip_same bot lo u p.1 T a) (clip_same hi top p.0 v T a)
