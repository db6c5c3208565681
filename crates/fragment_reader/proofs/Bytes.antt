-- The count and the end mark in lent bytes: how they are read, and how they are written.
-- Assumes nothing.
use mathlib.Core.Path.{◌≡◌, refl, sym, ap, ◌∙◌}
use mathlib.Core.Bool.{not}
use mathlib.Core.List.{List, [], ◌∷◌, ◌++◌, append-nil}
use Prim.Native.Nat.{ℕ, ◌+◌, ◌*◌, ◌≤◌, ◌<◌}
use native.Mathlib.Omega.{arith}
use lib.Dec.{eqb}
use lib.ListN.{length, set, take, drop, replicate, replicate-append-replicate, drop_of_length-le}
use lib.Seq.{sets, sets-eq}
use Rattle.chars.specs.Place.{ByteAt}
use Rattle.fragment_rules.specs.Reader.{fresh}
use Rattle.fragment_rules.specs.Lent.{lent, reader_in}
use Rattle.fragment_reader.specs.Hold.{Holds}

module _ (s : List ℕ) where
  pub held_in : (reader_in s).held ≡ take 1024 s
  unfolding reader_in
  held_in = refl

  pub count_over : (a b : ℕ) → ByteAt s 1024 a → ByteAt s 1025 b → 1024 < a + 256 * b → 1025 ≡ (reader_in s).count
  unfolding reader_in
  count_over a b e f h = rw (← e.is, ← f.is) (omega arith)

  pub count_within : (a b : ℕ) → ByteAt s 1024 a → ByteAt s 1025 b → a + 256 * b ≤ 1024 → a + 256 * b ≡ (reader_in s).count
  unfolding reader_in
  count_within a b e f h = rw (← e.is, ← f.is) (omega arith)

  pub count_near : (count : ℕ) → count ≡ (reader_in s).count → count ≤ 1025
  unfolding reader_in
  count_near count e = omega (arith, e)

  pub mark_there : (a : ℕ) → ByteAt s 1026 a → not (eqb a 0) ≡ (reader_in s).ended
  unfolding reader_in
  mark_there a e = rw e.is

pub mark_put : (s : List ℕ) (a b c : ℕ) → length s ≡ 1027 → set (set (set s 1024 a) 1025 b) 1026 c ≡ take 1024 s ++ (a ∷ b ∷ c ∷ [])
mark_put s a b c size =
    let mark = a ∷ b ∷ c ∷ [] in
    let none : drop 1027 s ≡ [] = drop_of_length-le s {i = 1027} (omega (arith, size)) in
    sets-eq mark s 1024 (omega (arith, size)) ∙ ap (λ rest. take 1024 s ++ mark ++ rest) none ∙ append-nil (take 1024 s ++ mark)

pub lump_put : (s lump part : List ℕ) (count r : ℕ) → Holds (take 1024 s) count lump part r →
    part ++ drop 1024 s ≡ sets (take 1024 s) count lump ++ drop 1024 s
lump_put s lump part count r h = ap (λ t. t ++ drop 1024 s) h.bytes

pub all_zeros : replicate 1027 0 ≡ lent fresh
unfolding lent
all_zeros = sym (replicate-append-replicate 1024 3 0)
