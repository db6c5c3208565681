-- The normal text of a version rests on its value alone: texts told by index are the texts of a list.
-- Assumes nothing.
use mathlib.Core.Path.{◌≡◌, refl, ◌∙◌, ap}
use mathlib.Core.List.{List, ◌∷◌, ◌++◌, map, append_assoc}
use Prim.Native.Nat.{ℕ, zero, suc, ◌≤◌, min}
use Prim.Native.Char.{code}
use native.Mathlib.Omega.{arith}
use lib.ListN.{length, get_or}
use Rattle.decimal.specs.Digits.{decimal}
use Rattle.version_parts.specs.declared.fields.Release.{Release}
use Rattle.version_parts.specs.declared.fields.Version.{Version}
use Rattle.version_reading.specs.declared.segment.Segment.{Segment}
use Rattle.version_reading.specs.declared.segment.Segment.TheVariants.{Number, Text}
use Rattle.version_reading.specs.Segment.{segment_of, segment_bytes}
use Rattle.version_reading.specs.Value.{label_as, label_from, listed, value_of}
use Rattle.version_normal.specs.Normal.{
  dotted,
  joined,
  release_text,
  segment_as,
  segment_text,
  labelled,
  label_text as localText,
  front_text,
  back_text,
  version_text,
}
use Rattle.version_roundtrip.specs.Text.{dotted_all, joined_all, word, label_text, value_text}
use Rattle.version_roundtrip.proofs.Fields.{numbers_of, listed_map, listed_same, listed_part}

dotted_all_lem : (f : ℕ → List ℕ) (i count : ℕ) → dotted f i count ≡ dotted_all (listed f i count)
unfolding dotted listed
dotted_all_lem f i zero = refl
dotted_all_lem f i (suc count) = ap (λ (l : List ℕ). code "." ∷ (f i ++ l)) (dotted_all_lem f (suc i) count)

joined_all_lem : (f : ℕ → List ℕ) (count : ℕ) → joined f count ≡ joined_all (listed f 0 count)
unfolding joined listed
joined_all_lem f zero = refl
joined_all_lem f (suc count) = rw (dotted_all_lem f 1 count)

release_all : (r : Release) → r.len ≤ 16 → length r.numbers ≡ 16 → release_text r ≡ joined_all (map decimal (numbers_of r))
unfolding release_text
release_all r few size =
    let all : min r.len 16 ≡ r.len = omega arith in
    let numbers = listed_map decimal (λ i. get_or r.numbers i 0) 0 r.len in
    rw (all, joined_all_lem _ r.len, numbers, listed_part r.numbers 0 0 r.len (omega arith))

segment_word : (bytes : List ℕ) → segment_text bytes ≡ word (label_from bytes)
unfolding segment_text label_from
segment_word bytes = go (segment_of bytes)
  where
    go : (x : Segment) → segment_as bytes x ≡ word (label_as bytes x)
    go (Number n) = refl
    go Text = refl

segments_all : (f : ℕ → List ℕ) (count : ℕ) → listed (λ i. segment_text (f i)) 0 count ≡ map word (listed (λ i. label_from (f i)) 0 count)
segments_all f count = listed_same _ _ 0 count (λ k h. segment_word (f k)) ∙ listed_map word (λ i. label_from (f i)) 0 count

label_all : (f : ℕ → List ℕ) (count : ℕ) → labelled (λ i. segment_text (f i)) count ≡ label_text (listed (λ i. label_from (f i)) 0 count)
unfolding listed
label_all f zero = refl
label_all f (suc count) = ap (λ l. code "+" ∷ l) (joined_all_lem _ (suc count) ∙ ap joined_all (segments_all f (suc count)))

pub text_of_value : (s : List ℕ) (v : Version) → v.release.len ≤ 16 → length v.release.numbers ≡ 16 →
    version_text s v ≡ value_text (value_of s v)
unfolding version_text front_text back_text localText value_text value_of
text_of_value s v few size = rw (release_all v.release few size, label_all (segment_bytes s v.local) _) (simp append_assoc)
