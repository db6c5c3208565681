-- Worked points of the word, by computation. Assumes nothing.
use Rattle.chars.specs.declared.spelling.PreKind.{PreKind}
use Rattle.std.specs.Prelude.{Option, None, Some}
use mathlib.Core.Path.{◌≡◌, refl}
use mathlib.Core.Bool.{true, false}
use mathlib.Core.List.{List, [], ◌∷◌}
use Prim.Native.Nat.{ℕ}
use Rattle.chars.specs.Text.{ascii}
use Rattle.chars.specs.declared.spelling.PreKind.TheVariants.{Alpha}
use Rattle.version_reading.specs.Value.{LocalSegment, text, Value}
use Rattle.version_word.specs.Small.{small_release, is_small, release_word, word_of}
use Rattle.version_word.specs.Beside.{word_is, word_beside}

abbrev version : List ℕ → Option ℕ → Value
version release post = record { epoch = 0; release = release; pre = None; post = post; dev = None; label = [] }

abbrev one : Option (PreKind × ℕ) → Option ℕ → List LocalSegment → Value
one pre dev label = record { epoch = 0; release = 1 ∷ []; pre = pre; post = None; dev = dev; label = label }

-- 1.2.3; 65535.255.255.255.post2097151
pub three_numbers : word_of (version (1 ∷ 2 ∷ 3 ∷ []) None) ≡ 0x0001020300A00000
unfolding release_word word_of
three_numbers = refl

pub three_beside : word_beside (version (1 ∷ 2 ∷ 3 ∷ []) None) ≡ Some (word_is 0x0001020300A00000)
unfolding small_release is_small release_word word_of word_beside
three_beside = refl

pub greatest_word : word_of (version (65535 ∷ 255 ∷ 255 ∷ 255 ∷ []) (Some 2097151)) ≡ 0xFFFFFFFFFFDFFFFF
unfolding release_word word_of
greatest_word = refl

pub greatest_is_small : is_small (version (65535 ∷ 255 ∷ 255 ∷ 255 ∷ []) (Some 2097151)) ≡ true
unfolding small_release is_small
greatest_is_small = refl

-- 65536; 1.256; 1.2.3.4.0; 1.post2097152; 1a0.dev0; 1+a
pub first_too_large : is_small (version (65536 ∷ []) None) ≡ false
unfolding small_release is_small
first_too_large = refl

pub second_too_large : is_small (version (1 ∷ 256 ∷ []) None) ≡ false
unfolding small_release is_small
second_too_large = refl

pub too_many_numbers : is_small (version (1 ∷ 2 ∷ 3 ∷ 4 ∷ 0 ∷ []) None) ≡ false
unfolding small_release is_small
too_many_numbers = refl

pub suffix_too_large : is_small (version (1 ∷ []) (Some 2097152)) ≡ false
unfolding small_release is_small
suffix_too_large = refl

pub two_suffixes : is_small (one (Some (Alpha, 0)) (Some 0) []) ≡ false
unfolding small_release is_small
two_suffixes = refl

pub labelled : is_small (one None None (text (ascii "a") ∷ [])) ≡ false
unfolding small_release is_small
labelled = refl

pub none_beside : word_beside (one None None (text (ascii "a") ∷ [])) ≡ None
unfolding small_release is_small word_beside
none_beside = refl
