-- Laws of the values of digits, and the ways of the functions that read them.
-- Assumes nothing.
use Rattle.std.specs.Prelude.{Option, None, Some, Ok, Err}
use mathlib.Core.Path.{◌≡◌, refl, ◌∙◌, sym}
use mathlib.Core.Bool.{Bool, true, false, cond, ◌&&◌}
use mathlib.Core.List.{List, [], ◌∷◌}
use Prim.Native.Nat.{ℕ, suc, ◌+◌, ◌*◌, ◌-◌, ◌^◌, ◌≤◌, ◌<◌}
use native.Mathlib.Nat.{le_trans, le_refl, zero-add}
use native.Mathlib.Numerals.{add-one}
use native.Mathlib.Omega.{arith}
use lib.Dec.{leb, eqb}
use lib.ListN.{length, get_or, drop, take, drop_of_length-le}
use lib.Seq.{drop-cons}
use borrow.Author.Tests.{le-leb, lt-leb, lt-ltb, le-ltb, eqb-true}
use Rattle.std.specs.Char.{is_ascii_digit}
use Rattle.chars.specs.Class.{class_of, digit, between, front, in_range, is_digit, is_letter, is_separator, is_blank}
use Rattle.chars.proofs.Cases.{no_eq, yes_is}
use Rattle.decimal.specs.declared.parse.NumberError.TheVariants.{TooBig}
use Rattle.decimal.specs.Parse.{Leading, digit_of, value_from, number_of, digits_of, is_zero, counted, leading_of, leading_length}

-- the ways of `digit`
module _ (b : ℕ) where
  pub digit_under : b < 48 → 0 ≡ digit_of b
  unfolding digit_of
  digit_under h = rw (lt-leb 48 b h)

  pub digit_over : 48 ≤ b → 57 < b → 0 ≡ digit_of b
  unfolding digit_of
  digit_over h g = rw (le-leb 48 b h, lt-leb b 57 g)

  pub digit_value : 48 ≤ b → b ≤ 57 → b - 48 ≡ digit_of b
  unfolding digit_of
  digit_value h g = rw (le-leb 48 b h, le-leb b 57 g)

value_grows : (v : ℕ) (s : List ℕ) → v ≤ value_from v s
unfolding value_from
value_grows v [] = le_refl v
value_grows v (b ∷ s) = le_trans (omega arith) (value_grows (v * 10 + digit_of b) s)

pub value_step : (v : ℕ) (s : List ℕ) (i : ℕ) → i < length s →
    value_from v (drop i s) ≡ value_from (v * 10 + digit_of (get_or s i 0)) (drop (i + 1) s)
unfolding value_from
value_step v s i h = rw (drop-cons s i 0 h, add-one i)

-- the ways of `parse_u64`, at place i with the value v of the digits before it, and d the digit there
module _ (s : List ℕ) (v i : ℕ) (same : value_from v (drop i s) ≡ value_from 0 s) where
  pub parse_big : (d : ℕ) → i < length s → d ≡ digit_of (get_or s i 0) → 2 ^ 64 ≤ v * 10 + d → Err TooBig ≡ number_of s
  unfolding number_of
  parse_big d h e g =
      let from : 2 ^ 64 ≤ v * 10 + digit_of (get_or s i 0) = rw e at g in
      let big : 2 ^ 64 ≤ value_from 0 s = rw (← same, value_step v s i h) (le_trans from (value_grows _ _)) in
      rw (le-ltb _ _ big)

  pub parse_on : (d more : ℕ) → i < length s → d ≡ digit_of (get_or s i 0) → more ≡ v * 10 + d → value_from more (drop (i + 1) s) ≡ value_from 0 s
  parse_on d more h e f = rw (f, e) (sym (value_step v s i h) ∙ same)

  pub parse_done : length s ≤ i → v < 2 ^ 64 → Ok v ≡ number_of s
  unfolding number_of value_from
  parse_done h g =
      let all : v ≡ value_from 0 s = rw (drop_of_length-le s h) at same in
      rw (← all, lt-ltb _ _ g)

-- a digit by its class, and by the library's test
digit_by : (d l p w : Bool) → in_range 3 3 (cond d 3 (cond l 4 (cond p 2 (cond w 1 0)))) ≡ d
digit_by true l p w = refl
digit_by false true p w = refl
digit_by false false true w = refl
digit_by false false false true = refl
digit_by false false false false = refl

digit_is : (b : ℕ) → between digit digit b ≡ is_ascii_digit b
unfolding between class_of
digit_is b = digit_by (is_digit b) (is_letter b) (is_separator b) (is_blank b) ∙ by (leb 48 b) (leb b 57)
  where
    by : (x y : Bool) → cond x y false ≡ (x && y)
    by true y = refl
    by false y = refl

-- the value of the digits at the front of s, after digits of value v
abbrev pub leading_from : ℕ → List ℕ → ℕ
leading_from v s = value_from v (take (digits_of s) s)

pub counted_within : (x : Option (ℕ × ℕ)) (v i n : ℕ) → x ≡ counted v i → i ≤ n → leading_length (Ok x) ≤ n
counted_within x v i n e h = rw e (go (eqb i 0))
  where
    go : (b : Bool) → leading_length (Ok (cond b None (Some (v, i)))) ≤ n
    go true = omega arith
    go false = h

-- the answer of a number that was read, by whether it has no digit
answer_by : (b : Bool) (v n : ℕ) (x : Option (ℕ × ℕ)) (y : Leading) → x ≡ cond b None (Some (v, n)) → y ≡ Ok x →
    y ≡ cond b (Ok None) (Ok (Some (v, n)))
answer_by true v n x y e f = rw (f, e)
answer_by false v n x y e f = rw (f, e)

all_read : (s : List ℕ) (n v : ℕ) → n ≡ digits_of s → v ≡ leading_from 0 s → v < 2 ^ 64 → Ok (counted v n) ≡ leading_of s
unfolding leading_of number_of
all_read s n v e f h = rw (← e, e, ← f, lt-ltb _ _ h) (answer_by (eqb (digits_of s) 0) v (digits_of s) _ _ refl refl)

pub lead_none : (s : List ℕ) (n : ℕ) → n ≡ digits_of s → n ≡ 0 → (Ok None) ≡ leading_of s
unfolding leading_of
lead_none s n e z = yes_is 0 _ e z refl

-- zeros in front of a number: how many digits there are, and their value
zeros_count : (s : List ℕ) → front is_zero s + digits_of (drop (front is_zero s) s) ≡ digits_of s
unfolding front between class_of
zeros_count [] = refl
zeros_count (b ∷ s) = go (eqb b 48) refl (zeros_count s)
  where
    go : (t : Bool) → eqb b 48 ≡ t → front is_zero s + digits_of (drop (front is_zero s) s) ≡ digits_of s → front is_zero (b ∷ s) + digits_of (drop (front is_zero (b ∷ s)) (b ∷ s)) ≡ digits_of (b ∷ s)
    go true e later = rw (eqb-true b 48 e) (omega (arith, later))
    go false e later = rw e (zero-add _)

zeros_value : (s : List ℕ) → leading_from 0 (drop (front is_zero s) s) ≡ leading_from 0 s
unfolding front between class_of value_from digit_of
zeros_value [] = refl
zeros_value (b ∷ s) = go (eqb b 48) refl (zeros_value s)
  where
    go : (t : Bool) → eqb b 48 ≡ t → leading_from 0 (drop (front is_zero s) s) ≡ leading_from 0 s → leading_from 0 (drop (front is_zero (b ∷ s)) (b ∷ s)) ≡ leading_from 0 (b ∷ s)
    go true e later = rw (eqb-true b 48 e) later
    go false e later = rw e

-- the start of `leading_number`, after n zeros
module _ (s : List ℕ) (n : ℕ) (e : n ≡ front is_zero s) where
  pub lead_count : n + digits_of (drop n s) ≡ digits_of s
  lead_count = rw e (zeros_count s)

  pub lead_start : leading_from 0 (drop n s) ≡ leading_from 0 s
  lead_start = rw e (zeros_value s)

-- the ways of `leading_number`, at place i with the value v of the digits before it, and d the digit there
module _ (s : List ℕ) (v i : ℕ) (same : i + digits_of (drop i s) ≡ digits_of s) (value : leading_from v (drop i s) ≡ leading_from 0 s) where
  none_left : (x : Option (ℕ × ℕ)) → digits_of (drop i s) ≡ 0 → v < 2 ^ 64 → x ≡ counted v i → Ok x ≡ leading_of s
  unfolding value_from
  none_left x none small f = rw f (all_read s i v (omega (arith, same, none)) (rw none at value) small)

  pub lead_stop : (x : Option (ℕ × ℕ)) → i < length s → is_ascii_digit (get_or s i 0) ≡ false → v < 2 ^ 64 → x ≡ counted v i → Ok x ≡ leading_of s
  unfolding front
  lead_stop x h e small f = none_left x (rw (drop-cons s i 0 h, digit_is (get_or s i 0), e)) small f

  pub lead_past : (x : Option (ℕ × ℕ)) → i ≡ length s → v < 2 ^ 64 → x ≡ counted v (length s) → Ok x ≡ leading_of s
  unfolding front
  lead_past x h small f = let all : length s ≤ i = omega arith in none_left x (rw (drop_of_length-le s all)) small (rw h f)

  module _ (d : ℕ) (h : i < length s) (e : is_ascii_digit (get_or s i 0) ≡ true) (f : d ≡ digit_of (get_or s i 0)) where
    pub lead_same : i + 1 + digits_of (drop (i + 1) s) ≡ digits_of s
    unfolding front
    lead_same =
        let step : digits_of (drop i s) ≡ suc (digits_of (drop (suc i) s)) = rw (drop-cons s i 0 h, digit_is (get_or s i 0), e) in
        rw (add-one i) (omega (arith, same, step))

    pub lead_value : (more : ℕ) → more ≡ v * 10 + d → leading_from more (drop (i + 1) s) ≡ leading_from 0 s
    unfolding front value_from
    lead_value more k = rw (k, f, add-one i) (sym (rw (drop-cons s i 0 h, digit_is (get_or s i 0), e)) ∙ value)

    pub lead_big : 2 ^ 64 ≤ v * 10 + d → Err TooBig ≡ leading_of s
    unfolding leading_of number_of
    lead_big k =
        let big : 2 ^ 64 ≤ leading_from 0 s = rw (← lead_value _ refl) (le_trans k (value_grows _ _)) in
        let some : (digits_of s ≡ 0 → ⊥) = λ z. absurd (omega (arith, lead_same, z)) in
        no_eq (digits_of s) 0 _ some (rw (le-ltb _ _ big))
