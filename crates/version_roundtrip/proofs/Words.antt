-- The segments of a label: what is written of one says the same segment again.
-- Assumes nothing.
use mathlib.Core.Path.{◌≡◌, refl, ap₂}
use mathlib.Core.List.{List, [], ◌∷◌, map}
use Prim.Native.Nat.{ℕ}
use native.Mathlib.Omega.{arith}
use borrow.Author.Tests.{eq-eqb}
use Rattle.order.specs.All.{All}
use Rattle.order.proofs.Elements.{all_weaker}
use Rattle.chars.specs.Class.{letter}
use Rattle.decimal.specs.Digits.{decimal}
use Rattle.version_reading.specs.declared.segment.Segment.TheVariants.{Number as IsNumber}
use Rattle.version_reading.specs.Segment.{segment_of}
use Rattle.version_reading.specs.Value.{LocalSegment, number, text, label_from}
use Rattle.version_roundtrip.specs.Text.{word}
use Rattle.version_roundtrip.specs.Readable.{Fits, Plain, IsSegment, LabelFits}
use Rattle.version_roundtrip.proofs.Numbers.{Digit, digit_between, decimal_digits, number_back}
use Rattle.version_roundtrip.proofs.Fields.{all_map}
use Rattle.version_roundtrip.proofs.Rests.{all_digits}

number_segment : (n : ℕ) → Fits n → segment_of (decimal n) ≡ IsNumber n
unfolding segment_of
number_segment n h = rw (eq-eqb _ _ (all_digits n), number_back n h)

decimal_segment : (n : ℕ) → IsSegment (decimal n)
decimal_segment n = record {
  some = omega (arith, (decimal_digits n).some);
  plain = all_weaker Digit Plain (digit_between letter refl) (decimal n) (decimal_digits n).digits;
}

-- what is written of a label's segment is a segment, and says that segment
word_segment : (x : LocalSegment) → LabelFits x → IsSegment (word x)
word_segment (number n) h = decimal_segment n
word_segment (text bytes) h = h.segment

word_back : (x : LocalSegment) → LabelFits x → label_from (word x) ≡ x
unfolding label_from
word_back (number n) h = rw (number_segment n h)
word_back (text bytes) h = rw (h.spells, h.lower)

pub words_segments : (label : List LocalSegment) → All LabelFits label → All IsSegment (map word label)
words_segments = all_map LabelFits IsSegment word word_segment

pub words_back : (label : List LocalSegment) → All LabelFits label → map label_from (map word label) ≡ label
words_back [] fits = refl
words_back (x ∷ label) fits = ap₂ ◌∷◌ (word_back x fits.0) (words_back label fits.1)
