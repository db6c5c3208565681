-- How long written texts are: the parts of a value's text, and numbers or segments after dots.
-- Assumes nothing.
use mathlib.Core.Path.{◌≡◌}
use mathlib.Core.List.{List, [], ◌∷◌, ◌++◌, map, append-nil}
use Prim.Native.Nat.{ℕ, zero, suc, ◌+◌, ◌≤◌}
use native.Mathlib.Omega.{arith}
use lib.ListN.{length, length-append}
use Rattle.chars.specs.Text.{ascii}
use Rattle.decimal.specs.Digits.{decimal}
use Rattle.version_reading.specs.Value.{Value}
use Rattle.version_normal.specs.Normal.{epoch_text, pre_text, part_text}
use Rattle.version_roundtrip.specs.Text.{dotted_all, joined_all, label_text, from_dev, from_post, from_pre, value_text}

pub parts_length : (v : Value) → length (value_text v) ≡
    length (epoch_text v.epoch) + (length (joined_all (map decimal v.release)) + (length (pre_text v.pre) +
    (length (part_text (ascii ".post") v.post) + (length (part_text (ascii ".dev") v.dev) + length (label_text v.label)))))
unfolding value_text
parts_length v = omega (
  arith,
  length-append (epoch_text v.epoch) (joined_all (map decimal v.release) ++ from_pre v.pre v.post v.dev v.label),
  length-append (joined_all (map decimal v.release)) (from_pre v.pre v.post v.dev v.label),
  length-append (pre_text v.pre) (from_post v.post v.dev v.label),
  length-append (part_text (ascii ".post") v.post) (from_dev v.dev v.label),
  length-append (part_text (ascii ".dev") v.dev) (label_text v.label),
)

-- no dot stands before the first number
pub joined_length : (ns : List ℕ) → 1 ≤ length ns → length (joined_all (map decimal ns)) + 1 ≡ length (dotted_all (map decimal ns))
joined_length [] h = absurd (omega arith)
joined_length (n ∷ ns) h = omega arith

pub epoch_length : (n : ℕ) → length (epoch_text n) ≤ length (decimal n) + 1
unfolding epoch_text
epoch_length zero = omega arith
epoch_length (suc n) = omega (arith, length-append (decimal (suc n)) (ascii "!"))

-- one more text after a dot
pub dotted_snoc : (xs : List (List ℕ)) (x : List ℕ) → length (dotted_all (xs ++ (x ∷ []))) ≡ length (dotted_all xs) + suc (length x)
dotted_snoc [] x = rw (append-nil x) (omega arith)
dotted_snoc (y ∷ xs) x =
    rw (length-append y (dotted_all xs), length-append y (dotted_all (xs ++ (x ∷ []))), dotted_snoc xs x) (omega arith)
