-- Where a text segment lies: the ways of the function that says it, and that its bytes lie there.
-- Assumes nothing.
use mathlib.Core.Path.{◌≡◌, refl, ap}
use mathlib.Core.Bool.{Bool, true, false, cond}
use mathlib.Core.List.{List, [], ◌∷◌}
use Prim.Native.Nat.{ℕ, zero, suc, ◌-◌}
use native.Mathlib.Omega.{arith}
use lib.Dec.{leb, ltb}
use lib.ListN.{length, get_or, take, drop}
use borrow.Author.Tests.{leb-false, ltb-false}
use Rattle.chars.specs.Class.{front}
use Rattle.decimal.specs.Parse.{number_of, value_from}
use Rattle.version_parts.specs.declared.fields.Span.{Span}
use Rattle.version_reading.specs.declared.segment.Segment.{Segment}
use Rattle.version_reading.specs.declared.segment.Segment.TheVariants.{Number as IsNumber, Text}
use Rattle.version_reading.specs.declared.text.VersionReading.{VersionReading}
use Rattle.version_parts.specs.Fields.{no_span}
use Rattle.version_reading.specs.Reading.{version_of}
use Rattle.version_reading.specs.Segment.{segment_of, segment_bytes, segment_text, spanned, text_only}
use Rattle.version_reading.proofs.Segments.{text_missing, text_there}
use Rattle.boundary_fields.specs.Fields.{span_at, start_of, segment_start}

-- as many bytes of a list as a front of it has are that front
front_of : (n : ℕ) (l : List ℕ) → take (length (take n l)) l ≡ take n l
front_of zero l = refl
front_of (suc n) [] = refl
front_of (suc n) (x ∷ l) = ap (λ (t : List ℕ). x ∷ t) (front_of n l)

-- what the bytes say as a text lies where their span begins
abbrev Lies : List ℕ → List ℕ → Span → Type 0
Lies s bytes g =
    let text = text_only bytes (segment_of bytes) in
    take (length text) (drop (start_of (segment_of bytes) g) s) ≡ text

-- no bytes are no text
none_lies : (s : List ℕ) (g : Span) → Lies s [] g
unfolding segment_of number_of front value_from
none_lies s g = refl

part_lies : (s : List ℕ) (g : Span) → Lies s (spanned s g) g
part_lies s g = by (segment_of (spanned s g))
  where
    by : (x : Segment) → take (length (text_only (spanned s g) x)) (drop (start_of x g) s) ≡ text_only (spanned s g) x
    by (IsNumber n) = refl
    by Text = front_of (g.end - g.start) (drop g.start s)

-- by the tests on the index: whether there is such a segment, and whether it is one of sixteen
lies : (s : List ℕ) (g : Span) (i : ℕ) (a b c : Bool) → leb 16 i ≡ b → ltb i 16 ≡ c → Lies s (cond a [] (cond b [] (spanned s g))) (cond c g no_span)
lies s g i true b c e f = none_lies s (cond c g no_span)
lies s g i false true c e f = none_lies s (cond c g no_span)
lies s g i false false true e f = part_lies s g
lies s g i false false false e f = absurd (omega (arith, leb-false 16 i e, ltb-false i 16 f))

-- the segment's bytes b, of the version that was read, and what they say
module _ (s : List ℕ) (i : ℕ) (read : VersionReading) (b : List ℕ) (r : Segment)
    (d : read ≡ version_of s) (e : b ≡ segment_bytes s read.version.local i) (f : r ≡ segment_of b) where
  module _ (n : ℕ) (g : r ≡ IsNumber n) where
    pub no_length : 0 ≡ length (segment_text s i)
    no_length = ap length (text_missing s i read b r d e f n g)

    pub no_start : 0 ≡ segment_start s i
    unfolding segment_start
    no_start = rw (← d, ← e, ← f, g)

  module _ (g : r ≡ Text) where
    pub its_length : length b ≡ length (segment_text s i)
    its_length = ap length (text_there s i read b r d e f g)

    pub its_start : (x : Span) → x ≡ span_at read.version.local i → x.start ≡ segment_start s i
    unfolding segment_start
    its_start x h = rw (← d, ← e, ← f, g, h)

-- the bytes that are told lie where they are told
pub segment_there : (s : List ℕ) (i : ℕ) → take (length (segment_text s i)) (drop (segment_start s i) s) ≡ segment_text s i
unfolding segment_text segment_start segment_bytes span_at
segment_there s i =
    let l = (version_of s).version.local in
    lies s (get_or l.spans i no_span) i (leb l.len i) (leb 16 i) (ltb i 16) refl refl
