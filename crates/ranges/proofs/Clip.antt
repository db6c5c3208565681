-- What clipping does to one range: its ends move inwards only, and an empty range is dropped. Each fact on an upper end is the fact on a
-- lower one with the order turned round. Assumes nothing.
use mathlib.Core.Path.{◌≡◌}
use mathlib.Core.List.{List, [], ◌∷◌}
use mathlib.Core.Bool.{Bool, true, false}
use Rattle.order.specs.All.{All}
use Rattle.order.specs.Preorder.{TotalPreorder}
use Rattle.order.proofs.Preorder.{le_refl, reversed}
use Rattle.ranges.specs.Range.{Range}
use Rattle.ranges.specs.Compile.{tighter, narrow, keep, clip}
use Rattle.ranges.proofs.Truth.{by_test}

-- to show something of the list after `keep`, show it with the range, if that is not empty, and without, if it is
pub keep_cases : {P : Type 0} (le : P → P → Bool) (C : List (Range P) → Type 0) (r : Range P) (T : List (Range P))
    → (le r.hi r.lo ≡ true → C T) → (le r.hi r.lo ≡ false → C (r ∷ T)) → C (keep le r T)
keep_cases le C r T f g = by_test C (le r.hi r.lo) T (r ∷ T) f g

module _ {P : Type 0} {le : P → P → Bool} (L : TotalPreorder le) (new old : P) where
  -- the greater of two ends is at least each
  past_old : le old (tighter le new old) ≡ true
  past_old = by_test (λ e. le old e ≡ true) (le new old) old new (λ h. le_refl L old) (λ h. L.total h)

  past_new : le new (tighter le new old) ≡ true
  past_new = by_test (λ e. le new e ≡ true) (le new old) old new (λ h. h) (λ h. le_refl L new)

module _ {P : Type 0} {le : P → P → Bool} (L : TotalPreorder le) (lo hi : P) (r : Range P) where
  pub old_lower : le r.lo (narrow le lo hi r).lo ≡ true
  old_lower = past_old L lo r.lo

  pub new_lower : le lo (narrow le lo hi r).lo ≡ true
  new_lower = past_new L lo r.lo

  pub old_upper : le (narrow le lo hi r).hi r.hi ≡ true
  old_upper = past_old (reversed L) hi r.hi

  pub new_upper : le (narrow le lo hi r).hi hi ≡ true
  new_upper = past_new (reversed L) hi r.hi

-- what holds of the narrowed ranges that are not empty holds of all that clipping leaves
pub clip_all : {P : Type 0} (le : P → P → Bool) (Q R : Range P → Type 0) (lo hi : P)
    → ((r : Range P) → Q r → le (narrow le lo hi r).hi (narrow le lo hi r).lo ≡ false → R (narrow le lo hi r))
    → (T : List (Range P)) → All Q T → All R (clip le lo hi T)
clip_all le Q R lo hi f [] a = tt
clip_all le Q R lo hi f (r ∷ T) a =
    let rest : All R (clip le lo hi T) = clip_all le Q R lo hi f T a.1 in
    keep_cases le (All R) (narrow le lo hi r) (clip le lo hi T) (λ e. rest) (λ e. (f r a.0 e, rest))
