-- The decimal digits of a number: they are digits, they are read as the number, and no digits of the number are fewer.
-- Assumes nothing.
use Rattle.std.specs.Prelude.{Ok}
use mathlib.Core.Path.{◌≡◌, refl, sym, ◌∙◌}
use mathlib.Core.Bool.{Bool, true, false, cond}
use mathlib.Core.List.{List, [], ◌∷◌, ◌++◌}
use Prim.Native.Nat.{ℕ, zero, suc, ◌+◌, ◌*◌, ◌-◌, ◌/◌, ◌%◌, ◌^◌, ◌≤◌, ◌<◌}
use Prim.Native.Char.{code}
use native.Mathlib.Nat.{le_refl}
use native.Mathlib.Omega.{arith}
use lib.Dec.{leb, ltb}
use lib.ListN.{length, length-append}
use borrow.Author.Tests.{le-leb, leb-true, ltb-true, ltb-false, lt-ltb}
use Rattle.order.specs.All.{All}
use Rattle.order.proofs.Elements.{all_append}
use Rattle.chars.specs.Class.{class_of, digit, between}
use Rattle.decimal.specs.Digits.{figure, decimal}
use Rattle.decimal.specs.Parse.{digit_of, value_from, number_of}
use Rattle.decimal.proofs.Figures.{one_digit, more_digits}
use Rattle.decimal.proofs.Values.{digit_value}

-- what holds of the digits of a number below ten, and of digits with one more after them, holds of all digits
module _ (P : ℕ → List ℕ → Type 0) (one : (n : ℕ) → n < 10 → P n (figure n ∷ []))
    (more : (n : ℕ) (ds : List ℕ) → 10 ≤ n → P (n / 10) ds → P n (ds ++ (figure (n % 10) ∷ []))) where
  up_to : (most n : ℕ) → n ≤ most → (small : Bool) → ltb n 10 ≡ small → P n (decimal n)
  up_to zero n h true e = rw (one_digit n (ltb-true n 10 e)) (one n (ltb-true n 10 e))
  up_to zero n h false e = let big = ltb-false n 10 e in absurd (omega arith)
  up_to (suc most) n h true e = rw (one_digit n (ltb-true n 10 e)) (one n (ltb-true n 10 e))
  up_to (suc most) n h false e =
      let big = ltb-false n 10 e in
      rw (more_digits n big) (more n (decimal (n / 10)) big (up_to most (n / 10) (omega arith) (ltb (n / 10) 10) refl))

  by_digits : (n : ℕ) → P n (decimal n)
  by_digits n = up_to n n (le_refl n) (ltb n 10) refl

value_append : (v : ℕ) (s t : List ℕ) → value_from v (s ++ t) ≡ value_from (value_from v s) t
unfolding value_from
value_append v [] t = refl
value_append v (b ∷ s) t = value_append (v * 10 + digit_of b) s t

-- a byte that is a digit
abbrev pub Digit : ℕ → Type 0
Digit b = (code "0" ≤ b) × (b ≤ code "9")

pub digit_class : (b : ℕ) → Digit b → class_of b ≡ digit
unfolding class_of
digit_class b d = rw (le-leb 48 b d.0, le-leb b 57 d.1)

-- a run from digits on takes a digit
pub digit_between : (hi : ℕ) → leb digit hi ≡ true → (b : ℕ) → Digit b → between digit hi b ≡ true
unfolding between
digit_between hi e b d = rw (digit_class b d, e)

figure_value : (n : ℕ) → n < 10 → digit_of (figure n) ≡ n
figure_value n h = sym (digit_value (48 + n) (omega arith) (omega arith)) ∙ omega arith

-- ds are digits of n, one at least
pub record DigitsOf (n : ℕ) (ds : List ℕ) : Type 0 where
  pub digits : All Digit ds
  pub value : value_from 0 ds ≡ n
  pub some : 0 < length ds

pub decimal_digits : (n : ℕ) → DigitsOf n (decimal n)
unfolding value_from
decimal_digits = by_digits DigitsOf one more
  where
    one : (n : ℕ) → n < 10 → DigitsOf n (figure n ∷ [])
    one n h = record { digits = ((omega arith, omega arith), tt); value = rw (figure_value n h) (omega arith); some = omega arith }

    more : (n : ℕ) (ds : List ℕ) → 10 ≤ n → DigitsOf (n / 10) ds → DigitsOf n (ds ++ (figure (n % 10) ∷ []))
    more n ds h d = record {
      digits = all_append Digit ds (figure (n % 10) ∷ []) d.digits ((omega arith, omega arith), tt);
      value = rw (value_append, d.value, figure_value (n % 10) (omega arith)) (omega arith);
      some = omega (arith, length-append ds (figure (n % 10) ∷ []));
    }

pub number_back : (n : ℕ) → n < 2 ^ 64 → number_of (decimal n) ≡ Ok n
unfolding number_of
number_back n h = rw ((decimal_digits n).value, lt-ltb n (2 ^ 64) h)

-- what holds of every text that begins with a digit holds of a text that begins with a number
pub begins_with_digit : (P : List ℕ → Type 0) → ((b : ℕ) (s : List ℕ) → Digit b → P (b ∷ s)) →
    (n : ℕ) (rest : List ℕ) → P (decimal n ++ rest)
begins_with_digit P f n rest = go (decimal n) (decimal_digits n).digits (decimal_digits n).some
  where
    go : (ds : List ℕ) → All Digit ds → 0 < length ds → P (ds ++ rest)
    go [] all h = absurd (omega arith)
    go (b ∷ ds) all h = f b (ds ++ rest) all.0

-- a digit after the digits of a number adds one digit at most
digit_small : (b : ℕ) → digit_of b ≤ 9
unfolding digit_of
digit_small b = go (leb 48 b) (leb b 57) refl
  where
    go : (low high : Bool) → leb b 57 ≡ high → cond (cond low high false) (b - 48) 0 ≤ 9
    go true true e = let h = leb-true b 57 e in omega arith
    go true false e = omega arith
    go false high e = omega arith

one_more : (v d : ℕ) → d ≤ 9 → length (decimal (v * 10 + d)) ≤ suc (length (decimal v))
one_more v d h = go (ltb (v * 10 + d) 10) refl
  where
    go : (small : Bool) → ltb (v * 10 + d) 10 ≡ small → length (decimal (v * 10 + d)) ≤ suc (length (decimal v))
    go true e = rw (one_digit (v * 10 + d) (ltb-true _ _ e)) (omega arith)
    go false e =
        let front : (v * 10 + d) / 10 ≡ v = omega arith in
        rw (more_digits (v * 10 + d) (ltb-false _ _ e), front, length-append) (omega arith)

value_length : (v : ℕ) (s : List ℕ) → length (decimal (value_from v s)) ≤ length (decimal v) + length s
unfolding value_from
value_length v [] = omega arith
value_length v (b ∷ s) =
    let next = value_length (v * 10 + digit_of b) s in
    let one = one_more v (digit_of b) (digit_small b) in
    omega arith

pub no_fewer : (s : List ℕ) → 0 < length s → length (decimal (value_from 0 s)) ≤ length s
unfolding value_from
no_fewer [] h = absurd (omega arith)
no_fewer (b ∷ s) h =
    let least : 0 * 10 + digit_of b < 10 = omega (arith, digit_small b) in
    let next = value_length (0 * 10 + digit_of b) s in
    let one : length (decimal (0 * 10 + digit_of b)) ≡ 1 = rw (one_digit _ least) in
    omega arith
