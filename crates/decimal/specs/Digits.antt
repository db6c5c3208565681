-- The decimal digits of a number.
use Rattle.std.specs.Prelude.{Bool, true, false, List, [], ◌∷◌, ◌++◌, ℕ, zero, suc, ◌+◌, ◌/◌, ◌%◌, ltb}
use Prim.Native.Char.{code}

abbrev pub figure : ℕ → ℕ
figure n = code "0" + n

-- the digits of n, where `small` says whether n is below ten; the first argument bounds the depth
unfoldable pub digits : ℕ → Bool → ℕ → List ℕ
digits zero true n = figure n ∷ []
digits zero false n = []
digits (suc depth) true n = figure n ∷ []
digits (suc depth) false n = digits depth (ltb (n / 10) 10) (n / 10) ++ (figure (n % 10) ∷ [])

-- no zero in front, and one digit for 0
unfoldable pub decimal : ℕ → List ℕ
decimal n = digits n (ltb n 10) n
