-- The three answers of a comparison: what each says of two numbers, tests of an answer, how an answer is turned round, and how two answers
-- make one. `Ordering` is the library's own type, so that `compare` of `Prim.Native.Nat` computes at once on numerals, and `is_le` (at most)
-- and `compare_is_eq` (equal) are the library's tests. Definitions only; assumes nothing.
use Rattle.std.specs.Prelude.{◌≡◌, Bool, not, ℕ, ◌<◌}
pub use Prim.Native.Nat.Ordering.{eq}
pub use Prim.Native.Nat.Ordering.{gt}
pub use Prim.Native.Nat.Ordering.{lt}
pub use Prim.Native.Nat.{Ordering}
pub use Rattle.std.proofs.Math.Dec.{is_le, compare_is_eq}

-- what an answer says of two numbers
abbrev pub Means : Ordering → ℕ → ℕ → Type 0
Means lt x y = x < y
Means eq x y = x ≡ y
Means gt x y = y < x

-- the answer where the two sides change places
abbrev pub flip : Ordering → Ordering
flip lt = gt
flip eq = eq
flip gt = lt

-- at least
abbrev pub is_ge : Ordering → Bool
is_ge o = is_le (flip o)

-- strictly below
abbrev pub is_lt : Ordering → Bool
is_lt o = not (is_ge o)

-- strictly above
abbrev pub is_gt : Ordering → Bool
is_gt o = not (is_le o)

-- the first answer decides; where it finds no difference, the second does
abbrev pub also : Ordering → Ordering → Ordering
also lt o = lt
also eq o = o
also gt o = gt
