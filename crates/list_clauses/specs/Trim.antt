-- A text without its trailing blanks.
use Rattle.std.specs.Prelude.{◌≡◌, Bool, cond, List, [], ◌∷◌, ℕ, suc, ◌≤◌, eqb, length}
use Rattle.chars.specs.Class.{class_of, blank}

-- a byte goes where it is a blank and nothing is left after it; n bytes are
abbrev pub kept : Bool → ℕ → ℕ
kept is_blank n = cond is_blank (cond (eqb n 0) 0 (suc n)) (suc n)

-- how many bytes are left without the trailing blanks
unfoldable pub trimmed_length : List ℕ → ℕ
trimmed_length [] = 0
trimmed_length (b ∷ s) = kept (eqb (class_of b) blank) (trimmed_length s)

pub record Trimmed (s : List ℕ) (r : ℕ) : Type 0 where
  pub is : r ≡ trimmed_length s
  pub within : r ≤ length s
