-- The arrays of a release and of a label as the lists that they stand for, the numbers and the bytes of the segments; and lists by index.
-- Assumes nothing.
use mathlib.Core.Path.{◌≡◌, refl, ◌∙◌, ap}
use mathlib.Core.List.{List, [], ◌∷◌, ◌++◌, map, map-append}
use Prim.Native.Nat.{ℕ, zero, suc, ◌+◌, ◌≤◌, ◌<◌, min}
use native.Mathlib.Numerals.{add-one}
use native.Mathlib.Omega.{arith}
use lib.ListN.{length, get_or, take, drop}
use lib.Seq.{drop-cons, take-suc-set}
use borrow.Author.Tests.{lt-leb}
use Rattle.order.specs.All.{All}
use Rattle.version_parts.specs.declared.fields.Release.{Release}
use Rattle.version_parts.specs.declared.fields.Span.{Span}
use Rattle.version_parts.specs.declared.fields.Local.{Local}
use Rattle.version_parts.specs.Fields.{pushed_number, no_span, pushed_span}
use Rattle.version_reading.specs.Segment.{spanned, segment_bytes}
use Rattle.version_reading.specs.Value.{listed, label_from}

abbrev pub numbers_of : Release → List ℕ
numbers_of r = take r.len r.numbers

abbrev pub segments_of : List ℕ → Local → List (List ℕ)
segments_of s l = map (spanned s) (take l.len l.spans)

pub pushed_number_lem : (r : Release) (n : ℕ) → r.len < length r.numbers → numbers_of (pushed_number r n) ≡ numbers_of r ++ (n ∷ [])
pushed_number_lem r n h = rw (add-one r.len) (take-suc-set r.numbers r.len n h)

pub pushed_segment : (s : List ℕ) (l : Local) (g : Span) → l.len < length l.spans →
    segments_of s (pushed_span l g) ≡ segments_of s l ++ (spanned s g ∷ [])
pushed_segment s l g h =
    rw (add-one l.len, take-suc-set l.spans l.len g h) (map-append (spanned s) (take l.len l.spans) (g ∷ []))

pub all_map : {A B : Type 0} (Q : A → Type 0) (R : B → Type 0) (f : A → B) → ((x : A) → Q x → R (f x)) →
    (l : List A) → All Q l → All R (map f l)
all_map Q R f g [] all = tt
all_map Q R f g (x ∷ l) all = (g x all.0, all_map Q R f g l all.1)

-- a list that is told by index
module _ {A : Type 0} where
  pub listed_map : {B : Type 0} (g : A → B) (f : ℕ → A) (i count : ℕ) → listed (λ k. g (f k)) i count ≡ map g (listed f i count)
  unfolding listed
  listed_map g f i zero = refl
  listed_map g f i (suc count) = ap (λ l. g (f i) ∷ l) (listed_map g f (suc i) count)

  pub listed_same : (f g : ℕ → A) (i count : ℕ) → ((k : ℕ) → k < i + count → f k ≡ g k) → listed f i count ≡ listed g i count
  unfolding listed
  listed_same f g i zero e = refl
  listed_same f g i (suc count) e = rw (e i (omega arith), listed_same f g (suc i) count (λ k h. e k (omega arith)))

  pub listed_part : (l : List A) (d : A) (i count : ℕ) → i + count ≤ length l → listed (λ k. get_or l k d) i count ≡ take count (drop i l)
  unfolding listed
  listed_part l d i zero h = refl
  listed_part l d i (suc count) h = rw (drop-cons l i d (omega arith), listed_part l d (suc i) count (omega arith))

-- a label as a value lists it
module _ (s : List ℕ) (l : Local) (few : l.len ≤ 16) (size : length l.spans ≡ 16) where
  segment_there : (i : ℕ) → i < 0 + l.len → segment_bytes s l i ≡ spanned s (get_or l.spans i no_span)
  unfolding segment_bytes
  segment_there i h = rw (lt-leb l.len i (omega arith), lt-leb 16 i (omega arith))

  pub label_listed : listed (λ i. label_from (segment_bytes s l i)) 0 (min l.len 16) ≡ map label_from (segments_of s l)
  label_listed =
      let all : min l.len 16 ≡ l.len = omega arith in
      let part = listed_part l.spans no_span 0 l.len (omega arith) in
      rw (all, listed_map label_from (segment_bytes s l) 0 l.len, listed_same _ _ 0 l.len segment_there)
      (ap (map label_from) (listed_map (spanned s) (λ i. get_or l.spans i no_span) 0 l.len ∙ ap (map (spanned s)) part))
