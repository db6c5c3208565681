-- How many ranges there are: a span adds none and a hole one at most, so a table has at most one more than there are holes.
-- Assumes nothing.
use Rattle.std.specs.Prelude.{Option, None, Some}
use mathlib.Core.Path.{◌≡◌, refl, ap}
use mathlib.Core.List.{List, [], ◌∷◌}
use mathlib.Core.Bool.{Bool, true, false}
use Prim.Native.Nat.{suc, ◌+◌, ◌≤◌}
use native.Mathlib.Omega.{arith}
use lib.ListN.{length, length-append}
use Rattle.order.specs.All.{All}
use Rattle.order.specs.Preorder.{TotalPreorder, Bounded}
use Rattle.ranges.specs.Range.{Range}
use Rattle.ranges.specs.Shape.{Shape, span, hole, holes, Proper}
use Rattle.ranges.specs.Compile.{narrow, keep, clip, step, compile, table}
use Rattle.ranges.specs.Table.{Asc}
use Rattle.ranges.proofs.Clip.{keep_cases, old_lower, new_lower, old_upper, new_upper}
use Rattle.ranges.proofs.Ascend.{clip_asc, step_asc, asc_lower}

keep_length : {P : Type 0} (le : P → P → Bool) (r : Range P) (T : List (Range P)) → length (keep le r T) ≤ suc (length T)
keep_length le r T = keep_cases le (λ U. length U ≤ suc (length T)) r T (λ e. omega arith) (λ e. omega arith)

pub clip_length : {P : Type 0} (le : P → P → Bool) (lo hi : P) (T : List (Range P)) → length (clip le lo hi T) ≤ length T
clip_length le lo hi [] = omega arith
clip_length le lo hi (r ∷ T) = omega (arith, keep_length le (narrow le lo hi r) (clip le lo hi T), clip_length le lo hi T)

module _ {P : Type 0} {le : P → P → Bool} (L : TotalPreorder le) where
  -- of ranges above x nothing is left below an end that is at most x
  clip_none : (lo hi x : P) → le hi x ≡ true → (T : List (Range P)) → Asc le (Some x) T → clip le lo hi T ≡ []
  clip_none lo hi x h [] a = refl
  clip_none lo hi x h (r ∷ T) a = rw empty (clip_none lo hi x h T (asc_lower L (L.trans (L.total a.0) (L.total a.1)) T a.2))
    where
      empty : le (narrow le lo hi r).hi (narrow le lo hi r).lo ≡ true
      empty = L.trans (new_upper L lo hi r) (L.trans (L.trans h (L.total a.0)) (old_lower L lo hi r))

  module _ (bot top : P) where
    -- the parts on both sides of a hole: only the first range that reaches past the hole can count twice, since of all after it nothing
    -- lies below
    pub hole_length : (lo hi : P) → le hi lo ≡ false → (b : Option P) (T : List (Range P)) → Asc le b T
        → length (clip le bot lo T) + length (clip le hi top T) ≤ suc (length T)
    hole_length lo hi p b [] a = omega arith
    hole_length lo hi p b (r ∷ T) a =
        let more = keep_length le (narrow le bot lo r) (clip le bot lo T) in
        let rest = hole_length lo hi p (Some r.hi) T a.2 in
        keep_cases le (λ U. length (keep le (narrow le bot lo r) (clip le bot lo T)) + length U ≤ suc (suc (length T)))
        (narrow le hi top r) (clip le hi top T)
        (λ e. omega arith)
        (λ e. omega (arith, ap length (clip_none bot lo r.hi (reaches e) T a.2), clip_length le hi top T))
      where
        -- r reaches past the hole
        reaches : le (narrow le hi top r).hi (narrow le hi top r).lo ≡ false → le lo r.hi ≡ true
        reaches e = L.trans (L.total p) (L.trans (new_lower L hi top r) (L.trans (L.total e) (old_upper L hi top r)))

    compile_length : (ss : List (Shape P)) → All (Proper le) ss → (T : List (Range P)) → Asc le None T
        → length (compile le bot top T ss) ≤ length T + holes ss
    compile_length [] p T a = omega arith
    compile_length (span lo hi ∷ ss) p T a =
        omega (arith, compile_length ss p.1 (clip le lo hi T) (clip_asc L lo hi None T a), clip_length le lo hi T)
    compile_length (hole lo hi ∷ ss) p T a =
        omega (
          arith,
          compile_length ss p.1 (step le bot top (hole lo hi) T) (step_asc L bot top (hole lo hi) p.0 None T a),
          hole_length lo hi p.0 None T a,
          length-append (clip le bot lo T) (clip le hi top T),
        )

  pub table_length : {bot top : P} → Bounded le bot top → (ss : List (Shape P)) → All (Proper le) ss
      → length (table le bot top ss) ≤ suc (holes ss)
  table_length {bot} {top} B ss p = omega (arith, compile_length bot top ss p (record { lo = bot; hi = top } ∷ []) (tt, B.apart, tt))
