-- Two lists given place by place, as a loop compares them: the first difference decides, and without one the lengths do.
-- Assumes nothing.
use mathlib.Core.Path.{◌≡◌, refl, sym, ◌∙◌}
use Prim.Native.Nat.{ℕ, zero, suc, ◌+◌, ◌-◌, ◌<◌, min, compare}
use native.Mathlib.Numerals.{add-one}
use native.Mathlib.Omega.{arith}
use Rattle.order.specs.Ordering.{Ordering, lt, eq, gt, also}
use Rattle.order.specs.Compare.{Comparison, list}
use Rattle.order.proofs.Numbers.{compare_is}
use Rattle.version_reading.specs.Value.{listed}

module _ {A : Type 0} (cmp : Comparison A) (f g : ℕ → A) (m n : ℕ) where
  -- how what the lists have from place i on compares
  abbrev pub on_from : ℕ → Ordering
  on_from i = list cmp (listed f i (m - i)) (listed g i (n - i))

  pub at_start : on_from 0 ≡ list cmp (listed f 0 m) (listed g 0 n)
  at_start =
      let one : m - 0 ≡ m = omega arith in
      let other : n - 0 ≡ n = omega arith in
      rw (one, other)

  -- no difference was found before place i
  module _ (i : ℕ) (rest : on_from i ≡ on_from 0) where
    pub at_place : i < min m n → also (cmp (f i) (g i)) (on_from (i + 1)) ≡ on_from 0
    unfolding listed
    at_place h = sym here ∙ rest
      where
        here : on_from i ≡ also (cmp (f i) (g i)) (on_from (i + 1))
        here =
            let one : m - i ≡ suc (m - suc i) = omega arith in
            let other : n - i ≡ suc (n - suc i) = omega arith in
            rw (one, other, add-one i)

    pub at_end : i ≡ min m n → compare m n ≡ on_from 0
    unfolding listed
    at_end e = go (m - i) (n - i) refl refl ∙ rest
      where
        go : (a b : ℕ) → m - i ≡ a → n - i ≡ b → compare m n ≡ list cmp (listed f i a) (listed g i b)
        go zero zero p q = compare_is eq m n (omega arith)
        go zero (suc b) p q = compare_is lt m n (omega arith)
        go (suc a) zero p q = compare_is gt m n (omega arith)
        go (suc a) (suc b) p q = absurd (omega arith)
