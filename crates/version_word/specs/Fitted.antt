-- A part of a word, where what it is made of is small.
use Rattle.std.specs.Prelude.{◌≡◌, Bool, true, false, ℕ, ◌≤◌, Some, None, Option}
use Rattle.version_word.specs.Small.{small_numbers, numbers_word, small_suffix, or_zero}

-- by whether it is small
abbrev pub fitted_if : Bool → ℕ → Option ℕ
fitted_if true n = Some n
fitted_if false n = None

abbrev pub fitted_number : Option ℕ → ℕ
fitted_number (Some n) = n
fitted_number None = 0

abbrev pub numbers_fitted : ℕ → ℕ → ℕ → ℕ → Option ℕ
numbers_fitted first second third fourth = fitted_if (small_numbers first second third fourth) (numbers_word first second third fourth)

abbrev pub suffix_fitted : Option ℕ → Option ℕ
suffix_fitted n = fitted_if (small_suffix n) (or_zero n)

-- r is that part, and at most `most`
pub record FittedTo (most : ℕ) (spec r : Option ℕ) : Type 0 where
  pub is : r ≡ spec
  pub within : fitted_number r ≤ most
