-- Two packed words compare as their versions do.
-- Assumes nothing.
use mathlib.Core.Path.{◌≡◌, sym, ◌∙◌}
use mathlib.Core.Bool.{true}
use Prim.Native.Nat.{ℕ, ◌+◌, ◌*◌, compare}
use native.Mathlib.Omega.{arith}
use Rattle.order.specs.Ordering.{eq, also}
use Rattle.order.specs.Compare.{padded}
use Rattle.order.proofs.Ordering.{also_assoc}
use Rattle.order.proofs.Numbers.{compare_means, compare_is}
use Rattle.version_reading.specs.Value.{Value}
use Rattle.version_order.specs.Key.{kind_of}
use Rattle.version_order.specs.Versions.{compare_release, compare_key, key, compare_public, compare_values}
use Rattle.version_order.proofs.Orders.{unlabelled}
use Rattle.version_word.specs.Small.{is_small, release_word, word_of}
use Rattle.version_word.proofs.Digits.{digit, four, four_compare}
use Rattle.version_word.proofs.Suffixes.{kind_digit, only, key_decides}
use Rattle.version_word.proofs.Smallness.{Small, small}

abbrev kind : Value → ℕ
kind v = kind_of v.pre v.post v.dev

-- the sum as digits
in_digits : (v : Value) (a : Small v) → word_of v ≡ (four v.release * 8 + kind v) * 2097152 + a.suffix.number
unfolding word_of release_word
in_digits v a = rw a.suffix.is (omega arith)

module _ (v w : Value) (a : Small v) (b : Small w) where
  digits_compare : compare (word_of v) (word_of w) ≡
      also (compare (four v.release) (four w.release))
      (also (compare (kind v) (kind w)) (compare a.suffix.number b.suffix.number))
  digits_compare =
      rw (in_digits v a, in_digits w b) (simp (digit 2097152, digit 8, also_assoc, kind_digit, a.suffix.small, b.suffix.small))

  values_compare : compare_values v w ≡ also (padded compare 0 v.release w.release) (compare_key (key v) (key w))
  unfolding compare_release compare_public
  values_compare = unlabelled v w a.label b.label ∙ rw (a.epoch, b.epoch)

  words_compare : compare (word_of v) (word_of w) ≡ compare_values v w
  words_compare =
      rw (
        digits_compare,
        values_compare,
        four_compare v.release w.release a.release b.release,
        key_decides (only v.pre v.post v.dev _ a.suffix.is) (only w.pre w.post w.dev _ b.suffix.is),
      )

pub word_compare : (v w : Value) → is_small v ≡ true → is_small w ≡ true → compare (word_of v) (word_of w) ≡ compare_values v w
word_compare v w a b = words_compare v w (small v a) (small w b)

-- so small versions are equal exactly if their words are
pub equal_words : (v w : Value) → is_small v ≡ true → is_small w ≡ true → compare_values v w ≡ eq → word_of v ≡ word_of w
equal_words v w a b e = rw (word_compare v w a b, e) at (compare_means (word_of v) (word_of w))

pub words_equal : (v w : Value) → is_small v ≡ true → is_small w ≡ true → word_of v ≡ word_of w → compare_values v w ≡ eq
words_equal v w a b e = sym (word_compare v w a b) ∙ compare_is eq (word_of v) (word_of w) e
