-- How many commas a list has: there is one clause more at most.
use Rattle.std.specs.Prelude.{◌≡◌, List, ℕ, ◌≤◌, ◌==◌, count_by, length}
use Prim.Native.Char.{code}

unfoldable pub commas_in : List ℕ → ℕ
commas_in s = count_by (λ b. b == code ",") s

pub record Commas (s : List ℕ) (r : ℕ) : Type 0 where
  pub is : r ≡ commas_in s
  pub within : r ≤ length s
