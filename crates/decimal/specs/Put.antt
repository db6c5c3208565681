-- What a writer does to a lent buffer.
use Rattle.std.specs.Prelude.{◌≡◌, List, ℕ, ◌+◌, ◌-◌, ◌^◌, ◌≤◌, min, length}
use Rattle.std.proofs.lemmas.List.Edits.{sets}

-- the last place that 64 bits can say: it lies after every buffer, and stands for all places there
abbrev pub farthest : ℕ
farthest = 2 ^ 64 - 1

abbrev pub onward : ℕ → ℕ → ℕ
onward at n = min (at + n) farthest

pub record Further (at n r : ℕ) : Type 0 where
  pub is : r ≡ onward at n
  pub near : r ≤ at + n

-- `new` is `old` with the text stored from `at` on, as far as it has room, and `next` is the place after the text
pub record Wrote (old : List ℕ) (at : ℕ) (text new : List ℕ) (next : ℕ) : Type 0 where
  pub bytes : new ≡ sets old at text
  pub moved : next ≡ onward at (length text)
  pub size : length old ≤ farthest

-- the same of a text that has at most `most` bytes
pub record Put (most : ℕ) (old : List ℕ) (at : ℕ) (text new : List ℕ) (next : ℕ) : Type 0 where
  pub wrote : Wrote old at text new next
  pub near : next ≤ at + most
