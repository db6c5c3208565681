-- A lump that comes to a reader, by the ways of `take`.
-- Assumes nothing.
use mathlib.Core.Path.{◌≡◌, sym}
use mathlib.Core.Bool.{Bool, true, false}
use mathlib.Core.List.{List}
use Prim.Native.Nat.{ℕ}
use Rattle.fragment_rules.specs.declared.reader.Reader.{Reader}
use Rattle.fragment_rules.specs.Reader.{added, taken}
use Rattle.fragment_rules.proofs.Kept.{taken_behind}
use Rattle.fragment_reader.specs.Hold.{Holds}

module _ (r : Reader) (lump : List ℕ) where
  pub kept_behind : r.ended ≡ true → r ≡ taken r lump
  kept_behind e = sym (taken_behind r lump e)

  pub added_before : r.ended ≡ false → taken r lump ≡ added r lump
  unfolding taken
  added_before e = rw e

  pub taken_before : (held : List ℕ) (count : ℕ) (ended : Bool) → r.ended ≡ false → ended ≡ false →
      Holds r.held r.count lump held count → record { held = held; count = count; ended = ended } ≡ taken r lump
  taken_before held count ended e f h = rw (added_before e, f, h.bytes, h.came)
