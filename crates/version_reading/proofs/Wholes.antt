-- The ways of the functions that read a whole text.
-- Assumes nothing.
use Rattle.std.specs.Prelude.{Result, Ok}
use mathlib.Core.Path.{◌≡◌}
use mathlib.Core.Bool.{Bool, false}
use mathlib.Core.List.{List, [], ◌∷◌}
use Prim.Native.Nat.{ℕ, ◌+◌, ◌-◌, ◌≤◌}
use native.Mathlib.Omega.{arith}
use lib.ListN.{length, take, drop, length-drop}
use Rattle.answers.specs.declared.Refusal.{Refusal}
use Rattle.chars.specs.Case.{beginning_of}
use Rattle.chars.proofs.Cases.{yes_flag, no_flag, no_lt}
use Rattle.chars.proofs.Beginnings.{begun, not_begun}
use Rattle.chars.proofs.Parts.{take_rest}
use Rattle.version_parts.specs.declared.head.Head.{Head}
use Rattle.version_parts.specs.Head.{head_place, head_of}
use Rattle.version_reading.specs.declared.text.PatternReading.{PatternReading}
use Rattle.version_reading.specs.Reading.{without_wildcard, starred, after_release, pattern_as, version_of, Read, VersionRead}

-- the head h of a text that is not too long, n bytes of `.*` after its release, and the answer q
module _ (wildcards : Bool) (s : List ℕ) (r : Result Head Refusal) (h : Head) (q : PatternReading) (n : ℕ) (short : length s ≤ 1024)
    (e : r ≡ head_of s) (f : r ≡ Ok h) (b : n ≡ beginning_of (46 ∷ 42 ∷ []) (take (length s - h.at) (drop h.at s))) where
  star : n ≡ beginning_of (46 ∷ 42 ∷ []) (drop h.at s)
  star = rw (take_rest s h.at) at b

  pub whole_star : (n ≡ 0 → ⊥) → q ≡ starred wildcards s h → q ≡ pattern_as wildcards s
  unfolding pattern_as
  whole_star z g = no_lt _ _ _ short (rw (← e, f) (yes_flag _ (begun 46 (42 ∷ []) _ n star z).0 g))

  pub whole_rest : n ≡ 0 → q ≡ after_release s h → q ≡ pattern_as wildcards s
  unfolding pattern_as
  whole_rest z g = no_lt _ _ _ short (rw (← e, f) (no_flag _ (not_begun 46 (42 ∷ []) _ n star z) g))

-- `.*` after the release ends within the text
pub star_ends : (s : List ℕ) (r : Result Head Refusal) (h : Head) (n : ℕ) → n ≡ beginning_of (46 ∷ 42 ∷ []) (take (length s - h.at) (drop h.at s)) →
    n ≤ length (take (length s - h.at) (drop h.at s)) → (n ≡ 0 → ⊥) → head_place r ≤ length s → r ≡ Ok h → h.at + 2 ≤ length s
star_ends s r h n b w z e f =
    let within : h.at ≤ length s = rw f at e in
    omega (arith, (begun 46 (42 ∷ []) _ n b z).1, rw (take_rest s h.at) at w, length-drop h.at s)

-- a version is a pattern without a wildcard
pub version_read : (s : List ℕ) (p : PatternReading) → Read (pattern_as false s) p → VersionRead (version_of s) (without_wildcard p)
unfolding version_of
version_read s p read = record { is = rw read.is; few = read.few; short = read.short; near = read.near }
