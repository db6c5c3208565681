-- The first 65 entries decide: they are all, or they are too many as well.
-- Assumes nothing.
use Rattle.register_rules.specs.declared.lowest.Lowest.{Lowest}
use Rattle.answers.specs.declared.RefusedInput.{RefusedInput}
use Rattle.std.specs.Prelude.{Result}
use mathlib.Core.Path.{◌≡◌, refl, ◌∙◌, ap}
use mathlib.Core.Bool.{Bool, true, false}
use mathlib.Core.List.{List}
use Prim.Native.Nat.{ℕ, ◌≤◌, ◌<◌, min}
use native.Mathlib.Omega.{arith}
use lib.Dec.{ltb}
use lib.ListN.{length, take, length-take}
use lib.Seq.{take_all}
use borrow.Author.Tests.{ltb-true, ltb-false, lt-ltb}
use Rattle.register_entries.specs.declared.entry.Entry.{Entry}
use Rattle.register_entries.specs.declared.held.Held.{Held}
use Rattle.register_entries.specs.Held.{held_of, entries_in}
use Rattle.register_entries.proofs.Holding.{entries_again, held_whole}
use Rattle.register_rules.specs.Fit.{fit_of}

module _ (es : List Entry) (buffer text : List ℕ) where
  by_count : (over : Bool) → ltb 64 (length es) ≡ over → fit_of (take 65 es) buffer text ≡ fit_of es buffer text
  unfolding fit_of
  by_count true e =
      let many : 64 < length (take 65 es) = omega (arith, ltb-true 64 (length es) e, length-take 65 es) in
      rw (e, lt-ltb 64 (length (take 65 es)) many)
  by_count false e =
      let all : length es ≤ 65 = omega (arith, ltb-false 64 (length es) e) in
      ap (λ (fs : List Entry). fit_of fs buffer text) (take_all 65 es all)

  pub first_65 : fit_of (take 65 es) buffer text ≡ fit_of es buffer text
  first_65 = by_count (ltb 64 (length es)) refl

  -- what is asked of a list, once it is held
  pub fit_gathered : (h : Held) (r : Result Lowest RefusedInput) → h ≡ held_of es → r ≡ fit_of (entries_in h) buffer text → r ≡ fit_of es buffer text
  fit_gathered h r e f = f ∙ rw (e, entries_again es) first_65

  -- an array by value whose first entries are lent
  pub fit_lent : (h : Held) (n : ℕ) (r : Result Lowest RefusedInput) → length h.list ≡ 65 → n ≡ min h.count 65 → r ≡ fit_of (take n h.list) buffer text →
      r ≡ fit_of (entries_in h) buffer text
  fit_lent h n r long e f = f ∙ rw (e, held_whole h long)
