-- The byte at a place of a text, and a part of a text.
use Rattle.std.specs.Prelude.{◌≡◌, List, ℕ, ◌*◌, ◌-◌, ◌≤◌, length, get_or, take, drop}

-- r is the byte at a place, and 0 past the end; `inside` says in one bound that a byte above 0 stands within the text
pub record ByteAt (s : List ℕ) (at r : ℕ) : Type 0 where
  pub is : r ≡ get_or s at 0
  pub inside : r ≤ 255 * (length s - at)

-- r is the part from start to end, as far as the text goes
pub record PartOf (s : List ℕ) (start end : ℕ) (r : List ℕ) : Type 0 where
  pub is : r ≡ take (end - start) (drop start s)
  pub short : length r ≤ end - start
