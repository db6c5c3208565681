-- Worked points of the prefix rule, by computation: definitions that would keep every law and still be wrong break them.
-- Assumes nothing.
use Rattle.std.specs.Prelude.{None, Some}
use mathlib.Core.Path.{◌≡◌, refl}
use mathlib.Core.Bool.{true, false}
use mathlib.Core.List.{List, [], ◌∷◌}
use Prim.Native.Nat.{ℕ}
use lib.ListN.{replicate}
use Rattle.version_parts.specs.declared.fields.Release.{Release}
use Rattle.version_reading.specs.Value.{Value}
use Rattle.decimal.specs.Parse.{largest}
use Rattle.version_prefix.specs.Prefix.{prefix_matches, next_prefix}
use Rattle.version_prefix.specs.Next.{dev_zero_fields, next, no_next, next_epoch, next_fields}

-- a release alone
abbrev plain : List ℕ → Value
plain release = record { epoch = 0; release = release; pre = None; post = None; dev = None; label = [] }

-- ==4.0.* matches 4, and not 4.1
pub prefix_is_padded : prefix_matches (plain (4 ∷ 0 ∷ [])) (plain (4 ∷ [])) ≡ true
unfolding prefix_matches
prefix_is_padded = refl

pub prefix_is_compared : prefix_matches (plain (4 ∷ 0 ∷ [])) (plain (4 ∷ 1 ∷ [])) ≡ false
unfolding prefix_matches
prefix_is_compared = refl

-- the next prefix of 4.2, of 4 with the largest number, of the largest number alone, and of that with the largest epoch
pub last_is_raised : next_prefix 0 (4 ∷ 2 ∷ []) ≡ Some (record { epoch = 0; release = 4 ∷ 3 ∷ [] })
unfolding next_prefix
last_is_raised = refl

pub largest_is_dropped : next_prefix 0 (4 ∷ largest ∷ []) ≡ Some (record { epoch = 0; release = 5 ∷ [] })
unfolding next_prefix
largest_is_dropped = refl

pub epoch_is_raised : next_prefix 0 (largest ∷ []) ≡ Some (record { epoch = 1; release = 0 ∷ [] })
unfolding next_prefix
epoch_is_raised = refl

pub no_next_lem : next_prefix largest (largest ∷ []) ≡ None
unfolding next_prefix
no_next_lem = refl

-- the same as fields, of 4 with the largest number and of the largest number alone
abbrev numbered : ℕ → ℕ → ℕ → Release
numbered len first second = record { numbers = first ∷ second ∷ replicate 14 0; len = len }

pub largest_dropped : next_fields 0 (numbered 2 4 largest) 2 ≡ next (dev_zero_fields 0 (numbered 1 5 largest))
unfolding next_fields
largest_dropped = refl

pub epoch_raised : next_fields 0 (numbered 1 largest 0) 1 ≡ next (dev_zero_fields 1 (numbered 1 0 0))
unfolding next_fields next_epoch
epoch_raised = refl

pub no_epoch_left : next_fields largest (numbered 1 largest 0) 1 ≡ no_next
unfolding next_fields next_epoch
no_epoch_left = refl
