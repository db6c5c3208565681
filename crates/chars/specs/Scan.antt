-- Where a byte stands in a text.
use Rattle.std.specs.Prelude.{◌≡◌, Bool, true, false, List, [], ◌∷◌, ℕ, suc, ◌+◌, ◌≤◌, eqb, length, drop}
use Prim.Native.Nat.{max}

unfoldable pub index_after : Bool → ℕ → ℕ
index_after true k = 0
index_after false k = suc k

-- how many bytes stand before the first b, and all of them where there is none
unfoldable pub index_of : ℕ → List ℕ → ℕ
index_of b [] = 0
index_of b (x ∷ s) = index_after (eqb x b) (index_of b s)

-- r is the place of the first b at `from` or after it
pub record FoundFrom (s : List ℕ) (from b r : ℕ) : Type 0 where
  pub is : r ≡ from + index_of b (drop from s)
  pub within : r ≤ max from (length s)
