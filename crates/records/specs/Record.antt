-- Records: two bytes body length, little-endian; two bytes kind, little-endian; body.
use Rattle.std.specs.Prelude.{◌≡◌, cond, List, [], ◌∷◌, ◌++◌, ℕ, ◌+◌, ◌*◌, ◌/◌, ◌%◌, ◌-◌, ◌≤◌, leb, ltb, length, take, drop, get_or}
use Rattle.records.specs.declared.record.RecordAt.{RecordAt}
use Rattle.records.specs.declared.record.RecordAt.TheVariants.{Found, Cut, Nothing}

unfoldable pub two_bytes_of : ℕ → List ℕ
two_bytes_of n = n % 256 ∷ n / 256 % 256 ∷ []

abbrev pub two_at : List ℕ → ℕ → ℕ
two_at s at = get_or s at 0 + 256 * get_or s (at + 1) 0

abbrev pub head_text : ℕ → ℕ → List ℕ
head_text len kind = two_bytes_of len ++ two_bytes_of kind

unfoldable pub record_text : ℕ → List ℕ → List ℕ
record_text kind body = head_text (length body) kind ++ body

-- the record that starts there: its kind, where its body starts, and the place after it
unfoldable pub record_at : List ℕ → ℕ → RecordAt
record_at s at =
    cond (leb (length s) at) Nothing
    (cond (ltb (length s) (at + 4 + two_at s at)) Cut
    (Found (two_at s (at + 2)) (at + 4) (at + 4 + two_at s at)))

-- what lies between two places
abbrev pub body_of : List ℕ → ℕ → ℕ → List ℕ
body_of s start next = take (next - start) (drop start s)

-- what a caller may count on beside the equation
pub record TwoRead (s : List ℕ) (at r : ℕ) : Type 0 where
  pub is : r ≡ two_at s at
  pub most : r ≤ 65535

abbrev pub start_of : RecordAt → ℕ
start_of (Found kind start next) = start
start_of Cut = 0
start_of Nothing = 0

abbrev pub next_of : RecordAt → ℕ
next_of (Found kind start next) = next
next_of Cut = 0
next_of Nothing = 0

pub record RecordRead (s : List ℕ) (at : ℕ) (r : RecordAt) : Type 0 where
  pub is : r ≡ record_at s at
  pub ordered : start_of r ≤ next_of r
  pub within : next_of r ≤ length s
