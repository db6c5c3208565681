-- What is read of the label of any text, rule 8: at most 16 segments of letters and digits, which are written again in no more bytes.
-- Assumes nothing.
use Rattle.std.specs.Prelude.{Ok, Err}
use mathlib.Core.Path.{◌≡◌, refl, ◌∙◌, subst}
use mathlib.Core.Bool.{Bool, true}
use mathlib.Core.List.{List, [], ◌∷◌, map}
use Prim.Native.Nat.{ℕ, zero, suc, ◌+◌, ◌-◌, ◌^◌, ◌≤◌, ◌<◌}
use Prim.Native.Char.{code}
use native.Mathlib.Omega.{arith}
use lib.Dec.{eqb, ltb}
use lib.ListN.{length, get_or, take, drop, length-append, length-take, length-drop, length-set}
use borrow.Author.Tests.{eqb-false, ltb-true}
use Rattle.order.specs.All.{All}
use Rattle.order.proofs.Elements.{all_append}
use Rattle.chars.specs.Class.{digit, letter, between, front}
use Rattle.chars.proofs.Beginnings.{lowered_length}
use Rattle.decimal.specs.Digits.{decimal}
use Rattle.decimal.specs.Parse.{value_from, number_of, digits_of}
use Rattle.version_parts.specs.declared.fields.Local.{Local}
use Rattle.version_reading.specs.declared.segment.Segment.{Segment}
use Rattle.version_reading.specs.declared.segment.Segment.TheVariants.{Number as IsNumber, Text}
use Rattle.version_parts.specs.Fields.{no_local, pushed_span}
use Rattle.version_parts.specs.Places.{separator_end}
use Rattle.version_parts.specs.Suffix.{Step}
use Rattle.version_reading.specs.Label.{word_end, spanning, more_segments, segments_from, label_at}
use Rattle.version_reading.specs.Segment.{numbered, segment_of, spanned}
use Rattle.version_reading.specs.Value.{label_as, label_from}
use Rattle.version_roundtrip.specs.Text.{dotted_all, word, label_text}
use Rattle.version_roundtrip.specs.Readable.{Fits, IsSegment, LabelFits}
use Rattle.version_roundtrip.proofs.Numbers.{no_fewer}
use Rattle.version_roundtrip.proofs.Fields.{segments_of, pushed_segment, all_map}
use Rattle.version_roundtrip.proofs.Lengths.{dotted_snoc}
use Rattle.version_roundtrip.proofs.Lower.{lowered_twice, lowered_says, lowered_segment}
use Rattle.version_roundtrip.proofs.ReadPlaces.{by_cond, run_within, byte_within, separator_onward}

run_all : (p : ℕ → Bool) (s : List ℕ) → All (λ b. p b ≡ true) (take (front p s) s)
unfolding front
run_all p [] = tt
run_all p (b ∷ s) = by_cond (λ k. All (λ c. p c ≡ true) (take k (b ∷ s))) (p b) (λ e. (e, run_all p s)) (λ e. tt)

-- the word at a place
module _ (s : List ℕ) (at : ℕ) where
  abbrev word_at : List ℕ
  word_at = spanned s (spanning at (word_end s at))

  word_run : word_at ≡ take (front (between digit letter) (drop at s)) (drop at s)
  unfolding word_end
  word_run =
      let count : at + front (between digit letter) (drop at s) - at ≡ front (between digit letter) (drop at s) = omega arith in
      rw count

  word_length : at + length word_at ≡ word_end s at
  unfolding word_end
  word_length =
      let count = front (between digit letter) (drop at s) in
      rw word_run (omega (arith, length-take count (drop at s), run_within (between digit letter) (drop at s)))

  word_within : at ≤ length s → word_end s at ≤ length s
  unfolding word_end
  word_within h = omega (arith, run_within (between digit letter) (drop at s), length-drop at s)

  word_segment : (word_end s at ≡ at → ⊥) → IsSegment word_at
  word_segment h = record {
    some = omega (arith, h, word_length);
    plain = rw word_run (run_all (between digit letter) (drop at s));
  }

-- the segments up to `at` that begin at `from`, with a byte before each
pub record SegmentsRead (s : List ℕ) (from : ℕ) (local : Local) (at : ℕ) : Type 0 where
  pub few : local.len ≤ 16
  pub size : length local.spans ≡ 16
  pub segments : All IsSegment (segments_of s local)
  pub long : from + length (dotted_all (segments_of s local)) ≤ at
  pub within : at ≤ length s

abbrev pub LabelSound : List ℕ → ℕ → Step Local → Type 0
LabelSound s from (Ok (local, at)) = SegmentsRead s from local at
LabelSound s from (Err e) = Unit {0}

pub none_read : (s : List ℕ) (at : ℕ) → at ≤ length s → SegmentsRead s at no_local at
none_read s at h = record { few = omega arith; size = refl; segments = tt; long = omega arith; within = h }

next_segment : (s : List ℕ) (from : ℕ) (local : Local) (at : ℕ) → SegmentsRead s (from + 1) local at → local.len < 16 →
    (word_end s at ≡ at → ⊥) → SegmentsRead s from (pushed_span local (spanning at (word_end s at))) (word_end s at)
next_segment s from local at r room some =
    let pushed = pushed_segment s local (spanning at (word_end s at)) (omega (arith, r.size)) in
    record {
      few = omega arith;
      size = length-set local.spans local.len (spanning at (word_end s at)) ∙ r.size;
      segments = rw pushed (all_append IsSegment (segments_of s local) (word_at s at ∷ []) r.segments (word_segment s at some, tt));
      long = rw (pushed, dotted_snoc) (omega (arith, r.long, word_length s at));
      within = word_within s at r.within;
    }

-- after a separator the next segment begins
behind : (s : List ℕ) (from : ℕ) (local : Local) (at next : ℕ) → SegmentsRead s from local at → at < next → next ≤ length s →
    SegmentsRead s (from + 1) local next
behind s from local at next r h g = record {
  few = r.few;
  size = r.size;
  segments = r.segments;
  long = omega (arith, r.long);
  within = g;
}

more_sound : (more : Local → ℕ → Step Local) (s : List ℕ) (from : ℕ) (local : Local) (at end : ℕ) →
    let kept = pushed_span local (spanning at end) in SegmentsRead s from kept end →
    ((next : ℕ) → SegmentsRead s (from + 1) kept next → LabelSound s from (more kept next)) →
    LabelSound s from (more_segments more s local at end)
more_sound more s from local at end r further =
    by_cond (LabelSound s from) (eqb (separator_end s end) end) (λ e. r) (λ e. further _ (next (eqb-false _ _ e)))
  where
    next : (separator_end s end ≡ end → ⊥) → SegmentsRead s (from + 1) (pushed_span local (spanning at end)) (separator_end s end)
    next moved =
        let o = separator_onward s end r.within in
        behind s from _ end (separator_end s end) r (omega (arith, moved, o.forward)) o.within

segments_sound : (room : ℕ) (s : List ℕ) (from : ℕ) (local : Local) (at : ℕ) → local.len + room ≡ 16 → SegmentsRead s (from + 1) local at →
    LabelSound s from (segments_from room s local at)
unfolding segments_from
segments_sound zero s from local at full r =
    by_cond (LabelSound s from) (eqb (word_end s at) at) (λ e. tt) (λ e. tt)
segments_sound (suc room) s from local at full r =
    let kept = pushed_span local (spanning at (word_end s at)) in
    by_cond (LabelSound s from) (eqb (word_end s at) at) (λ e. tt)
    (λ e. more_sound (segments_from room s) s from local at (word_end s at) (next_segment s from local at r (omega arith) (eqb-false _ _ e))
    (λ next q. segments_sound room s from kept next (omega arith) q))

pub label_sound : (s : List ℕ) (at : ℕ) → at ≤ length s → LabelSound s at (label_at s at)
unfolding label_at
label_sound s at h = by_cond (LabelSound s at) (eqb (get_or s at 0) (code "+")) plus (λ e. none_read s at h)
  where
    plus : eqb (get_or s at 0) (code "+") ≡ true → LabelSound s at (segments_from 16 s no_local (at + 1))
    plus e =
        let inside = byte_within s at (λ b. eqb b (code "+")) refl e in
        segments_sound 16 s at no_local (at + 1) refl (none_read s (at + 1) (omega arith))

-- a number that a segment says
abbrev NumberSaid : List ℕ → Segment → Type 0
NumberSaid bytes (IsNumber n) = Fits n × (length (decimal n) ≤ length bytes)
NumberSaid bytes Text = Unit {0}

number_said : (bytes : List ℕ) → 0 < length bytes → NumberSaid bytes (segment_of bytes)
unfolding segment_of number_of
number_said bytes h = by_cond (NumberSaid bytes) (eqb (digits_of bytes) (length bytes)) (λ e. digits_only) (λ e. tt)
  where
    digits_only : NumberSaid bytes (numbered (number_of bytes))
    digits_only =
        by_cond (λ x. NumberSaid bytes (numbered x)) (ltb (value_from 0 bytes) (2 ^ 64))
        (λ e. (ltb-true _ _ e, no_fewer bytes h)) (λ e. tt)

-- a segment as a value has it can be read, and is written again in no more bytes
segment_sound : (bytes : List ℕ) → IsSegment bytes → LabelFits (label_from bytes) × (length (word (label_from bytes)) ≤ length bytes)
unfolding label_from
segment_sound bytes h = go (segment_of bytes) refl
  where
    go : (x : Segment) → segment_of bytes ≡ x → LabelFits (label_as bytes x) × (length (word (label_as bytes x)) ≤ length bytes)
    go (IsNumber n) e = subst (NumberSaid bytes) e (number_said bytes h.some)
    go Text e = (
      record { segment = lowered_segment bytes h; lower = lowered_twice bytes; spells = lowered_says bytes ∙ e },
      omega (arith, lowered_length bytes),
    )

pub segments_fit : (segments : List (List ℕ)) → All IsSegment segments → All LabelFits (map label_from segments)
segments_fit = all_map IsSegment LabelFits label_from (λ x h. (segment_sound x h).0)

words_long : (segments : List (List ℕ)) → All IsSegment segments →
    length (dotted_all (map word (map label_from segments))) ≤ length (dotted_all segments)
words_long [] all = omega arith
words_long (x ∷ xs) all =
    let one = (segment_sound x all.0).1 in
    let written = length-append (word (label_from x)) (dotted_all (map word (map label_from xs))) in
    omega (arith, words_long xs all.1, length-append x (dotted_all xs))

pub label_long : (segments : List (List ℕ)) → All IsSegment segments →
    length (label_text (map label_from segments)) ≤ length (dotted_all segments)
label_long [] all = omega arith
label_long (x ∷ xs) all = words_long (x ∷ xs) all
