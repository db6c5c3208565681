-- Laws of parts of a text.
-- Assumes nothing.
use mathlib.Core.Path.{◌≡◌, sym, ◌∙◌}
use mathlib.Core.List.{List, []}
use Prim.Native.Nat.{ℕ, ◌-◌, ◌≤◌, ◌<◌}
use native.Mathlib.Omega.{arith}
use lib.ListN.{length, take, drop, length-drop, drop_of_length-le}
use lib.Seq.{take_all, take-nil}

module _ (s : List ℕ) (a : ℕ) where
  pub part_past : (n : ℕ) → length s ≤ a → [] ≡ take n (drop a s)
  part_past n h = rw (drop_of_length-le s h, take-nil n)

  -- a part that ends at or after the text's end is the rest of the text
  part_rest : (e : ℕ) → length s ≤ e → take (e - a) (drop a s) ≡ drop a s
  part_rest e h = take_all (e - a) (drop a s) (omega (arith, length-drop a s))

  pub take_rest : take (length s - a) (drop a s) ≡ drop a s
  take_rest = part_rest (length s) (omega arith)

  -- a part that ends before it starts, and one that ends after the text
  pub part_none : (e : ℕ) → e ≤ a → [] ≡ take (e - a) (drop a s)
  part_none e h = let z : e - a ≡ 0 = omega arith in rw z

  pub part_over : (e : ℕ) → length s < e → take (length s - a) (drop a s) ≡ take (e - a) (drop a s)
  part_over e h = take_rest ∙ sym (part_rest e (omega arith))
