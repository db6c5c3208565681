-- Entries from a list of numbers for each field: as many as there are identifiers, each with what stands at its place.
-- Assumes nothing.
use mathlib.Core.Path.{◌≡◌, refl, ◌∙◌, ap}
use mathlib.Core.List.{List, [], ◌∷◌}
use Prim.Native.Nat.{ℕ, zero, suc, ◌+◌, ◌≤◌, ◌<◌, min}
use native.Mathlib.Omega.{arith}
use native.Mathlib.Numerals.{add-one}
use lib.ListN.{length, get_or, take, drop, length-take}
use lib.Seq.{take-suc, get_or-take}
use Rattle.register_entries.specs.declared.entry.Entry.{Entry}
use Rattle.register_entries.specs.declared.held.Held.{Held}
use Rattle.register_entries.specs.Held.{blank, entry_of, held_of, with_entry, entries_of}
use Rattle.register_entries.proofs.Holding.{one_more, first_held}

pub entries_long : (ids starts lengths : List ℕ) → length (entries_of ids starts lengths) ≡ length ids
unfolding entries_of
entries_long [] starts lengths = refl
entries_long (id ∷ ids) starts lengths = ap suc (entries_long ids (drop 1 starts) (drop 1 lengths))

next_at : (l : List ℕ) (i : ℕ) → get_or (drop 1 l) i 0 ≡ get_or l (suc i) 0
next_at [] i = refl
next_at (n ∷ l) i = refl

pub entry_found : (ids starts lengths : List ℕ) (i : ℕ) → i < length ids
    → get_or (entries_of ids starts lengths) i blank ≡ entry_of (get_or ids i 0) (get_or starts i 0) (get_or lengths i 0)
unfolding entries_of
entry_found [] starts lengths i h = absurd (omega arith)
entry_found (id ∷ ids) starts lengths zero h = refl
entry_found (id ∷ ids) starts lengths (suc i) h =
    entry_found ids (drop 1 starts) (drop 1 lengths) i (omega arith)
    ∙ rw (next_at starts i, next_at lengths i)

-- the turn and the end of `Held::of_numbers`
module _ (ids starts lengths : List ℕ) where
  abbrev es : List Entry
  es = entries_of ids starts lengths

  -- over the first n identifiers
  module _ (n : ℕ) (first : List ℕ) (f : first ≡ take n ids) (i : ℕ) where
    few : length first ≡ min n (length ids)
    few = ap length f ∙ length-take n ids

    pub numbers_turn : i < length first
        → with_entry (held_of (take i es)) (entry_of (get_or first i 0) (get_or starts i 0) (get_or lengths i 0)) ≡ held_of (take (i + 1) es)
    numbers_turn h =
        let same : get_or first i 0 ≡ get_or ids i 0 = ap (λ l. get_or l i 0) f ∙ get_or-take n ids i 0 (omega (arith, few)) in
        one_more (take i es) (entry_of (get_or first i 0) (get_or starts i 0) (get_or lengths i 0))
        ∙ rw (same, add-one, ← entry_found ids starts lengths i (omega (arith, few)), take-suc es i blank (omega (arith, few, entries_long ids starts lengths)))

  -- 65 of them are enough
  pub numbers_end : (first : List ℕ) (i : ℕ) (held : Held) → first ≡ take (min (length ids) 65) ids → length first ≤ i → held ≡ held_of (take i es) → held ≡ held_of es
  numbers_end first i held f h e = e ∙ first_held es i (omega (arith, few _ first f i, entries_long ids starts lengths))
