-- The ways of `match_end`: the largest numbers at the end of a prefix are dropped one by one, and the one before them is raised.
-- Assumes nothing.
use Rattle.std.specs.Prelude.{Option, None, Some}
use mathlib.Core.Path.{◌≡◌, refl, ◌∙◌}
use Prim.Native.Nat.{ℕ, suc, ◌+◌, ◌-◌, ◌≤◌, ◌<◌}
use native.Mathlib.Numerals.{add-one}
use native.Mathlib.Omega.{arith}
use lib.ListN.{get_or}
use borrow.Author.Tests.{eq-eqb, ne_eqb}
use Rattle.chars.proofs.Cases.{yes_is, no_is}
use Rattle.version_parts.specs.declared.fields.Release.{Release}
use Rattle.version_parts.specs.declared.fields.Version.{Version}
use Rattle.version_parts.specs.Fields.{only_number}
use Rattle.decimal.specs.Parse.{largest}
use Rattle.version_prefix.specs.Next.{dev_zero_fields, ending_in, next, next_epoch, next_fields}

-- no number is left
module _ (epoch : ℕ) where
  pub epoch_largest : epoch ≡ largest → None ≡ next_epoch epoch
  unfolding next_epoch
  epoch_largest e = rw (eq-eqb _ _ e)

  pub epoch_raised : (q : Release) (v : Version) → (epoch ≡ largest → ⊥) → q ≡ only_number 0 → v ≡ dev_zero_fields (epoch + 1) q →
      Some v ≡ next_epoch epoch
  unfolding next_epoch
  epoch_raised q v e f g = rw (ne_eqb _ _ e, g, f, add-one epoch)

-- of n numbers `left` are left
module _ (epoch : ℕ) (r : Release) (left n : ℕ) (same : next_fields epoch r left ≡ next_fields epoch r n) where
  pub match_none : (q : Option Version) → left ≤ 0 → q ≡ next_epoch epoch → q ≡ next_fields epoch r n
  unfolding next_fields
  match_none q h e = let z : left ≡ 0 = omega arith in e ∙ (rw z at same)

  module _ (some : 0 < left) where
    one : left ≡ suc (left - 1)
    one = omega arith

    -- the last of them
    module _ (number : ℕ) (there : number ≡ get_or r.numbers (left - 1) 0) where
      pub match_raised : (q : Release) (v : Version) → (number ≡ largest → ⊥) → q ≡ ending_in r (left - 1) (number + 1) →
          v ≡ dev_zero_fields epoch q → Some v ≡ next_fields epoch r n
      unfolding next_fields
      match_raised q v e f g =
          let last : next (dev_zero_fields epoch q) ≡ next_fields epoch r (suc (left - 1)) = no_is _ _ there e (rw (f, there, add-one)) in
          rw g (last ∙ (rw one at same))

      pub match_dropped : number ≡ largest → next_fields epoch r (left - 1) ≡ next_fields epoch r n
      unfolding next_fields
      match_dropped e =
          let last : next_fields epoch r (left - 1) ≡ next_fields epoch r (suc (left - 1)) = yes_is _ _ there e refl in
          last ∙ (rw one at same)
