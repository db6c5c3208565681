-- The number that decimal digits write, and the number at the front of a text.
use Rattle.std.specs.Prelude.{◌≡◌, Bool, cond, List, [], ◌∷◌, ℕ, ◌+◌, ◌-◌, ◌*◌, ◌^◌, ◌≤◌, ltb, eqb, length, take, Result, Ok, Err, Option, None, Some}
use Prim.Native.Char.{code}
use Rattle.chars.specs.Class.{is_digit, digit, between, front}
use Rattle.decimal.specs.declared.parse.NumberError.{NumberError}
use Rattle.decimal.specs.declared.parse.NumberError.TheVariants.{TooBig}

-- the largest number
abbrev pub largest : ℕ
largest = 2 ^ 64 - 1

-- a digit's value, and 0 for any other byte
unfoldable pub digit_of : ℕ → ℕ
digit_of b = cond (is_digit b) (b - code "0") 0

pub record Digit (b r : ℕ) : Type 0 where
  pub is : r ≡ digit_of b
  pub small : r ≤ 9

-- the value of the digits s after digits of value v
unfoldable pub value_from : ℕ → List ℕ → ℕ
value_from v [] = v
value_from v (b ∷ s) = value_from (v * 10 + digit_of b) s

-- the number at the front of a text: none, or its value and how many digits it has
abbrev pub Leading : Type 0
Leading = Result (Option (ℕ × ℕ)) NumberError

-- no digit at all writes 0
unfoldable pub number_of : List ℕ → Result ℕ NumberError
number_of s = cond (ltb (value_from 0 s) (2 ^ 64)) (Ok (value_from 0 s)) (Err TooBig)

-- how many digits stand at the front
abbrev pub digits_of : List ℕ → ℕ
digits_of s = front (between digit digit) s

abbrev pub sized : ℕ → Result ℕ NumberError → Leading
sized len (Ok n) = Ok (Some (n, len))
sized len (Err e) = Err e

abbrev pub is_zero : ℕ → Bool
is_zero b = eqb b (code "0")

-- a number of that many digits with its value; none where there is no digit
abbrev pub counted : ℕ → ℕ → Option (ℕ × ℕ)
counted value count = cond (eqb count 0) None (Some (value, count))

unfoldable pub leading_of : List ℕ → Leading
leading_of s = cond (eqb (digits_of s) 0) (Ok None) (sized (digits_of s) (number_of (take (digits_of s) s)))

-- how many bytes the number takes
abbrev pub leading_length : Leading → ℕ
leading_length (Ok None) = 0
leading_length (Ok (Some (n, len))) = len
leading_length (Err e) = 0

pub record Led (s : List ℕ) (r : Leading) : Type 0 where
  pub is : r ≡ leading_of s
  pub within : leading_length r ≤ length s
