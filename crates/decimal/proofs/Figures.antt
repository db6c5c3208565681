-- Laws of `decimal`: only the first three look into it.
-- Assumes nothing.
use mathlib.Core.Path.{◌≡◌, refl, ap}
use mathlib.Core.Bool.{Bool, true, false}
use mathlib.Core.List.{List, [], ◌∷◌, ◌++◌}
use Prim.Native.Nat.{ℕ, zero, suc, ◌/◌, ◌%◌, ◌^◌, ◌≤◌, ◌<◌}
use native.Mathlib.Nat.{le_refl, pow-suc}
use native.Mathlib.Decide.{dec_lt}
use native.Mathlib.Omega.{arith}
use lib.Dec.{ltb}
use lib.ListN.{length, length-append}
use borrow.Author.Tests.{lt-ltb, le-ltb, ltb-false}
use Rattle.decimal.specs.Digits.{figure, digits, decimal}

-- enough depth is enough
deep_enough : (f g n : ℕ) (b : Bool) → ltb n 10 ≡ b → n ≤ f → n ≤ g → digits f b n ≡ digits g b n
unfolding digits
deep_enough zero zero n true e hf hg = refl
deep_enough zero (suc g) n true e hf hg = refl
deep_enough (suc f) zero n true e hf hg = refl
deep_enough (suc f) (suc g) n true e hf hg = refl
deep_enough zero g n false e hf hg = let h : 10 ≤ n = ltb-false n 10 e in absurd (omega arith)
deep_enough (suc f) zero n false e hf hg = let h : 10 ≤ n = ltb-false n 10 e in absurd (omega arith)
deep_enough (suc f) (suc g) n false e hf hg =
    let h : 10 ≤ n = ltb-false n 10 e in
    ap (λ (l : List ℕ). l ++ (figure (n % 10) ∷ []))
    (deep_enough f g (n / 10) (ltb (n / 10) 10) refl (omega arith) (omega arith))

pub one_digit : (n : ℕ) → n < 10 → decimal n ≡ figure n ∷ []
unfolding decimal digits
one_digit n h = rw (lt-ltb n 10 h) (flat n)
  where
    flat : (f : ℕ) → digits f true n ≡ figure n ∷ []
    flat zero = refl
    flat (suc f) = refl

pub more_digits : (n : ℕ) → 10 ≤ n → decimal n ≡ decimal (n / 10) ++ (figure (n % 10) ∷ [])
unfolding decimal digits
more_digits n h = rw (le-ltb n 10 h) (deeper n (le_refl n))
  where
    deeper : (f : ℕ) → n ≤ f → digits f false n ≡ decimal (n / 10) ++ (figure (n % 10) ∷ [])
    deeper zero k = absurd (omega arith)
    deeper (suc f) k =
        ap (λ (l : List ℕ). l ++ (figure (n % 10) ∷ []))
        (deep_enough f (n / 10) (n / 10) (ltb (n / 10) 10) refl (omega arith) (le_refl (n / 10)))

-- a number below 10 ^ suc k has at most suc k digits
pub few_digits : (k n : ℕ) → n < 10 ^ suc k → length (decimal n) ≤ suc k
few_digits zero n h = rw (one_digit n (omega arith)) (omega arith)
few_digits (suc k) n h =
    elim (dec_lt n 10) [
      | yes l ↦ rw (one_digit n l) (omega arith)
      | no l ↦
          let shorter = few_digits k (n / 10) (omega (arith, pow-suc 10 (suc k))) in
          rw (more_digits n (omega arith)) (omega (arith, shorter, length-append (decimal (n / 10)) (figure (n % 10) ∷ [])))
    ]

pub twenty_digits : (n : ℕ) → n < 2 ^ 64 → length (decimal n) ≤ 20
twenty_digits n h = few_digits 19 n (omega arith)
