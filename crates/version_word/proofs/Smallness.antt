-- What a small version is, from the tests that say so.
-- Assumes nothing.
use Rattle.std.specs.Prelude.{Option, None, Some}
use mathlib.Core.Path.{◌≡◌, refl}
use mathlib.Core.Bool.{Bool, true, false, ◌&&◌}
use mathlib.Core.List.{List, [], ◌∷◌}
use Prim.Native.Nat.{ℕ, ◌<◌}
use native.Mathlib.Omega.{arith}
use lib.Dec.{eqb, leb}
use lib.ListN.{length, get_or}
use borrow.Author.Tests.{eqb-true, leb-true}
use Rattle.version_reading.specs.Value.{LocalSegment, Value}
use Rattle.version_word.specs.Small.{small_release, only_suffix, small_suffix, no_label, is_small}
use Rattle.version_word.proofs.Digits.{FourNumbers}

both : (a b : Bool) → a && b ≡ true → (a ≡ true) × (b ≡ true)
both true b e = (refl, e)
both false b e = (e, cc)

no_segment : (l : List LocalSegment) → no_label l ≡ true → l ≡ []
no_segment [] e = refl
no_segment (x ∷ l) e = cc

-- the number of the suffix
pub record Suffix (n : Option ℕ) : Type 0 where
  pub number : ℕ
  pub is : n ≡ Some number
  pub small : number < 2097152

suffix_of : (n : Option ℕ) → small_suffix n ≡ true → Suffix n
suffix_of None e = record { number = 0; is = cc; small = omega arith }
suffix_of (Some n) e = record { number = n; is = refl; small = omega (arith, leb-true n 2097151 e) }

four_of : (r : List ℕ) → small_release r ≡ true → FourNumbers r
unfolding small_release
four_of r e =
    let few = both (leb (length r) 4) _ e in
    let first = both (leb (get_or r 0 0) 65535) _ few.1 in
    let second = both (leb (get_or r 1 0) 255) _ first.1 in
    let third = both (leb (get_or r 2 0) 255) (leb (get_or r 3 0) 255) second.1 in
    record {
      few = leb-true (length r) 4 few.0;
      second = omega (arith, leb-true (get_or r 1 0) 255 second.0);
      third = omega (arith, leb-true (get_or r 2 0) 255 third.0);
      fourth = omega (arith, leb-true (get_or r 3 0) 255 third.1);
    }

-- what a small version is
pub record Small (v : Value) : Type 0 where
  pub epoch : v.epoch ≡ 0
  pub release : FourNumbers v.release
  pub suffix : Suffix (only_suffix v.pre v.post v.dev)
  pub label : v.label ≡ []

pub small : (v : Value) → is_small v ≡ true → Small v
unfolding is_small
small v e =
    let epoch = both (eqb v.epoch 0) _ e in
    let release = both (small_release v.release) _ epoch.1 in
    let suffix = both (small_suffix (only_suffix v.pre v.post v.dev)) (no_label v.label) release.1 in
    record {
      epoch = eqb-true v.epoch 0 epoch.0;
      release = four_of v.release release.0;
      suffix = suffix_of (only_suffix v.pre v.post v.dev) suffix.0;
      label = no_segment v.label suffix.1;
    }
