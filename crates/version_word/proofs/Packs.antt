-- The ways of the functions that give a word of fields.
-- Assumes nothing.
use Rattle.chars.specs.declared.spelling.PreKind.{PreKind}
use Rattle.std.specs.Prelude.{Option, Some, None}
use mathlib.Core.Path.{◌≡◌, refl, ◌∙◌}
use mathlib.Core.Bool.{Bool, true, false, and-false}
use mathlib.Core.List.{List, []}
use Prim.Native.Nat.{ℕ, ◌+◌, ◌*◌, ◌≤◌, ◌<◌, min}
use native.Mathlib.Omega.{arith}
use lib.ListN.{length, get_or, take, length-take}
use borrow.Author.Tests.{ne_eqb, lt-leb}
use Rattle.version_parts.specs.declared.fields.Version.{Version}
use Rattle.version_reading.specs.Value.{listed, value_of}
use Rattle.version_order.specs.Key.{kind_of}
use Rattle.version_word.specs.declared.packed.Word.{Word}
use Rattle.version_word.specs.Small.{small_numbers, numbers_word, small_release, only_suffix, small_suffix, or_zero, is_small}
use Rattle.version_word.specs.Fitted.{fitted_if, numbers_fitted, suffix_fitted}
use Rattle.version_word.specs.Beside.{word_is, word_beside, packed_word}
use Rattle.version_word.proofs.Beside.{no_label_lem, value_packed}

-- what a part's answer says of its test and number
not_fitted : (b : Bool) (n : ℕ) → None ≡ fitted_if b n → b ≡ false
not_fitted true n e = cc
not_fitted false n e = refl

is_fitted : (b : Bool) (n m : ℕ) → Some m ≡ fitted_if b n → (b ≡ true) × (n ≡ m)
is_fitted true n m e = (refl, cc)
is_fitted false n m e = (cc, cc)

-- four release numbers and a suffix
module _ (a b c d : ℕ) (pre : Option (PreKind × ℕ)) (post dev : Option ℕ) (r : Option Word) where
  pub numbers_large : None ≡ numbers_fitted a b c d → r ≡ None → r ≡ packed_word a b c d pre post dev
  unfolding packed_word
  numbers_large f e = e ∙ rw (not_fitted (small_numbers a b c d) (numbers_word a b c d) f)

  module _ (high : ℕ) (f : Some high ≡ numbers_fitted a b c d) where
    numbers_are : (small_numbers a b c d ≡ true) × (numbers_word a b c d ≡ high)
    numbers_are = is_fitted (small_numbers a b c d) (numbers_word a b c d) high f

    pub suffix_not_small : None ≡ suffix_fitted (only_suffix pre post dev) → r ≡ None → r ≡ packed_word a b c d pre post dev
    unfolding packed_word
    suffix_not_small g e =
        e ∙ rw (numbers_are.0, not_fitted (small_suffix (only_suffix pre post dev)) (or_zero (only_suffix pre post dev)) g)

    pub word_packed : (low kind : ℕ) → Some low ≡ suffix_fitted (only_suffix pre post dev) → kind ≡ kind_of pre post dev →
        r ≡ Some (word_is (high + kind * 0x200000 + low)) → r ≡ packed_word a b c d pre post dev
    unfolding packed_word
    word_packed low kind g k e =
        let suffix = is_fitted (small_suffix (only_suffix pre post dev)) (or_zero (only_suffix pre post dev)) low g in
        e ∙ rw (numbers_are.0, suffix.0, numbers_are.1, suffix.1, k)

-- the fields of a version, as far as they were looked at
module _ (v : Version) where
  abbrev pub numbers : List ℕ
  numbers = take v.release.len v.release.numbers

  pub epoch_large : (v.epoch ≡ 0 → ⊥) → None ≡ word_beside (value_of [] v)
  unfolding word_beside is_small value_of
  epoch_large h = rw (ne_eqb _ _ h)

  pub release_long : length v.release.numbers ≡ 16 → 4 < v.release.len → None ≡ word_beside (value_of [] v)
  unfolding word_beside is_small small_release value_of
  release_long e h =
      let many : 4 < length numbers = omega (arith, length-take v.release.len v.release.numbers, e) in
      simp (lt-leb (length numbers) 4 many, and-false)

  pub label_there : (v.local.len ≡ 0 → ⊥) → None ≡ word_beside (value_of [] v)
  unfolding word_beside is_small value_of
  label_there h = simp (no_label_lem, ne_eqb (min v.local.len 16) 0 (λ z. h (omega arith)), and-false)

  -- a, b, c and d are its release numbers
  pub fields_packed : (a b c d : ℕ) (r : Option Word) → v.epoch ≡ 0 → v.release.len ≤ 4 → v.local.len ≡ 0 →
      a ≡ get_or numbers 0 0 → b ≡ get_or numbers 1 0 → c ≡ get_or numbers 2 0 → d ≡ get_or numbers 3 0 →
      r ≡ packed_word a b c d v.pre v.post v.dev → r ≡ word_beside (value_of [] v)
  unfolding value_of listed
  fields_packed a b c d r e f l ea eb ec ed h =
      let few : length numbers ≤ 4 = omega (arith, length-take v.release.len v.release.numbers) in
      h ∙ value_packed (value_of [] v) a b c d e (record { few = few; first = ea; second = eb; third = ec; fourth = ed }) (rw l)
