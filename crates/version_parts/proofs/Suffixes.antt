-- The ways of the functions that read the suffix: rules 5 to 7.
-- Assumes nothing.
use Rattle.std.specs.Prelude.{Option, None, Ok}
use mathlib.Core.Path.{◌≡◌, sym}
use mathlib.Core.List.{List}
use Prim.Native.Nat.{ℕ, ◌+◌, ◌-◌, ◌≤◌, ◌<◌, max}
use native.Mathlib.Omega.{arith}
use lib.ListN.{length, take, drop, length-drop}
use Rattle.chars.specs.Spelling.{spelling_length}
use Rattle.chars.proofs.Parts.{take_rest}
use Rattle.version_parts.specs.Suffix.{suffix_at}
use Rattle.version_parts.proofs.Ended.{suffix_ended}

-- a spelling that was found after the separator at `at` ends within the text
pub plain_ends : (s : List ℕ) (at from : ℕ) (r : Option ℕ) → spelling_length r ≤ length (take (length s - from) (drop from s)) →
    from ≤ max at (length s) → at ≤ length s → from + spelling_length r ≤ length s
plain_ends s at from r h g k = omega (arith, rw (take_rest s from) at h, length-drop from s)

pub suffix_past : (s : List ℕ) (at : ℕ) → length s < at → Ok ((None, None, None), at) ≡ suffix_at s at
suffix_past s at h = sym (suffix_ended s at (omega arith))
