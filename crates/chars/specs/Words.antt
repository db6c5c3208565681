-- The first of several words that a text begins with, in either case.
use Rattle.std.specs.Prelude.{◌≡◌, cond, List, [], ◌∷◌, ℕ, suc, ◌≤◌, eqb, length, Option, Some, None}
use Rattle.chars.specs.Case.{beginning_of}

-- a byte in front of the first word
abbrev pub onto : ℕ → List (List ℕ) → List (List ℕ)
onto b [] = (b ∷ []) ∷ []
onto b (w ∷ ws) = (b ∷ w) ∷ ws

-- the words of a text, one blank between two
unfoldable pub words_in : List ℕ → List (List ℕ)
words_in [] = [] ∷ []
words_in (b ∷ s) = cond (eqb b 32) ([] ∷ words_in s) (onto b (words_in s))

-- the first of the words that s begins with, and its number, where the first word has the number `which`
unfoldable pub first_in : ℕ → List (List ℕ) → List ℕ → Option (ℕ × ℕ)
first_in which [] s = None
first_in which (w ∷ ws) s = cond (eqb (beginning_of w s) 0) (first_in (suc which) ws s) (Some (which, (beginning_of w s)))

abbrev pub length_found : Option (ℕ × ℕ) → ℕ
length_found (Some (which, n)) = n
length_found None = 0

pub record WordFound (s : List ℕ) (spec r : Option (ℕ × ℕ)) : Type 0 where
  pub is : r ≡ spec
  pub within : length_found r ≤ length s
