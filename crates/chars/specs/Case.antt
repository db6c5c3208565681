-- Letters in either case.
use Rattle.std.specs.Prelude.{◌≡◌, Bool, true, false, cond, List, [], ◌∷◌, ℕ, ◌+◌, ◌≤◌, eqb, length}
use Prim.Native.Char.{code}
use Rattle.chars.specs.Class.{in_range}

unfoldable pub lower_of : ℕ → ℕ
lower_of b = cond (in_range (code "A") (code "Z") b) (b + 32) b

-- r is the byte in lower case; `near` says in one bound that byte 0, which stands for the end of a text, is no letter's
pub record Lowered (b r : ℕ) : Type 0 where
  pub is : r ≡ lower_of b
  pub near : r ≤ b + 32

-- a text in lower case
unfoldable pub lowered : List ℕ → List ℕ
lowered [] = []
lowered (b ∷ s) = lower_of b ∷ lowered s

-- the text begins with the word, which is in lower case, in either case
unfoldable pub starts_with : List ℕ → List ℕ → Bool
starts_with [] s = true
starts_with (x ∷ w) [] = false
starts_with (x ∷ w) (b ∷ s) = cond (eqb (lower_of b) x) (starts_with w s) false

-- the length of that beginning, and 0 where there is none
unfoldable pub beginning_of : List ℕ → List ℕ → ℕ
beginning_of w s = cond (starts_with w s) (length w) 0

pub record Begun (w s : List ℕ) (r : ℕ) : Type 0 where
  pub is : r ≡ beginning_of w s
  pub within : r ≤ length s
