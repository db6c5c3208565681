-- The label of a normal text is read back, rule 8.
-- Assumes nothing.
use mathlib.Core.Path.{◌≡◌, refl, sym, ◌∙◌}
use mathlib.Core.List.{List, [], ◌∷◌, ◌++◌, map}
use Prim.Native.Nat.{ℕ, suc, ◌+◌, ◌-◌, ◌≤◌, ◌<◌}
use native.Mathlib.Nat.{add-zero}
use native.Mathlib.Omega.{arith}
use lib.ListN.{length, drop, length-set, length-map}
use lib.Seq.{append_snoc, take-append_seam}
use Rattle.order.specs.All.{All}
use Rattle.chars.specs.Class.{class_of, digit, letter, between, front}
use Rattle.version_parts.specs.declared.fields.Local.{Local}
use Rattle.version_parts.specs.Fields.{no_local, pushed_span}
use Rattle.version_parts.specs.Suffix.{Step}
use Rattle.version_reading.specs.Label.{label_read, word_end, spanning, segments_from, label_at}
use Rattle.version_reading.specs.Segment.{spanned}
use Rattle.version_reading.specs.Value.{LocalSegment}
use Rattle.version_reading.proofs.Labels.{segment_last, segment_more}
use Rattle.version_roundtrip.specs.Text.{dotted_all, word, label_text}
use Rattle.version_roundtrip.specs.Readable.{IsSegment, LabelFits}
use Rattle.version_roundtrip.proofs.Fields.{segments_of, pushed_segment}
use Rattle.version_roundtrip.proofs.Rests.{Left, stepped, byte_here, separator_here, further, past, run_ends}
use Rattle.version_roundtrip.proofs.Words.{words_segments}

-- a segment w stands at a place: the reader's word there is w
record WordHere (s w : List ℕ) (at : ℕ) : Type 0 where
  ends : at + length w ≡ word_end s at
  moves : at + length w ≡ at → ⊥
  spans : spanned s (spanning at (at + length w)) ≡ w

word_ends : (ws : List (List ℕ)) → front (between digit letter) (dotted_all ws) ≡ 0
unfolding front between class_of
word_ends [] = refl
word_ends (w ∷ ws) = refl

word_here : (s w : List ℕ) (ws : List (List ℕ)) (at : ℕ) → IsSegment w → drop at s ≡ w ++ dotted_all ws → WordHere s w at
unfolding word_end
word_here s w ws at h here =
    let size : at + length w - at ≡ length w = omega arith in
    record {
      ends = rw (here, run_ends (between digit letter) w (dotted_all ws) h.plain (word_ends ws));
      moves = λ e. omega (arith, h.some);
      spans = rw (here, size) (take-append_seam w (dotted_all ws));
    }

kept_here : (s w : List ℕ) (at : ℕ) (local : Local) → WordHere s w at → local.len < length local.spans →
    segments_of s (pushed_span local (spanning at (at + length w))) ≡ segments_of s local ++ (w ∷ [])
kept_here s w at local here h = pushed_segment s local (spanning at (at + length w)) h ∙ (rw here.spans)

-- segments were read back, up to the end of the text
pub record SegmentsBack (s : List ℕ) (segments : List (List ℕ)) (step : Step Local) : Type 0 where
  pub local : Local
  pub read : Left s [] step (label_read local)
  pub is : segments_of s local ≡ segments
  pub few : local.len ≤ 16
  pub size : length local.spans ≡ 16

segments_back : (s w : List ℕ) (ws : List (List ℕ)) (local : Local) (at : ℕ) → All IsSegment (w ∷ ws) → local.len + suc (length ws) ≤ 16 →
    length local.spans ≡ 16 → drop at s ≡ w ++ dotted_all ws →
    SegmentsBack s (segments_of s local ++ (w ∷ ws)) (segments_from (16 - local.len) s local at)
unfolding class_of
segments_back s w [] local at all h size here =
    let end = at + length w in
    let kept = pushed_span local (spanning at end) in
    let found = word_here s w [] at all.0 here in
    let left : drop end s ≡ [] = past s at w [] here in
    let stays = sym (separator_here s end [] left ∙ add-zero end) in
    let last = segment_last s local at end _ refl found.ends found.moves kept end refl (omega arith) (λ e. omega arith) stays refl in
    record {
      local = kept;
      read = record { next = end; is = sym last; left = left };
      is = kept_here s w at local found (omega arith);
      few = omega arith;
      size = length-set local.spans local.len (spanning at end) ∙ size;
    }
segments_back s w (v ∷ ws) local at all h size here =
    let end = at + length w in
    let kept = pushed_span local (spanning at end) in
    let found = word_here s w (v ∷ ws) at all.0 here in
    let left : drop end s ≡ dotted_all (v ∷ ws) = past s at w (dotted_all (v ∷ ws)) here in
    let dot = sym (separator_here s end _ left) in
    let more = segment_more s local at end _ refl found.ends found.moves kept (end + 1) refl (omega arith) (λ e. omega arith) dot
    (λ e. omega arith) in
    let size' = length-set local.spans local.len (spanning at end) ∙ size in
    let rest = segments_back s v ws kept (end + 1) all.1 (omega arith) size' (further s end _ left 1) in
    record {
      local = rest.local;
      read = stepped rest.read (λ next e. sym more ∙ e);
      is = rest.is ∙ (rw (kept_here s w at local found (omega arith)) (append_snoc (segments_of s local) w (v ∷ ws)));
      few = rest.few;
      size = rest.size;
    }

pub label_back : (s : List ℕ) (at : ℕ) (label : List LocalSegment) → All LabelFits label → length label ≤ 16 → drop at s ≡ label_text label →
    SegmentsBack s (map word label) (label_at s at)
unfolding label_at
label_back s at [] fits short here = record {
  local = no_local;
  read = record { next = at; is = rw (byte_here s at [] here); left = here };
  is = refl;
  few = omega arith;
  size = refl;
}
label_back s at (x ∷ label) fits short here =
    let all = words_segments (x ∷ label) fits in
    let count = length-map label word in
    let rest = segments_back s (word x) (map word label) no_local (at + 1) all (omega arith) refl (further s at _ here 1) in
    record {
      local = rest.local;
      read = stepped rest.read (λ next e. rw (byte_here s at _ here) e);
      is = rest.is;
      few = rest.few;
      size = rest.size;
    }
