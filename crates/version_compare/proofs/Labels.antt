-- The ways of the functions that compare segments and labels.
-- Assumes nothing.
use mathlib.Core.Path.{◌≡◌, ◌∙◌}
use mathlib.Core.List.{List}
use Prim.Native.Nat.{ℕ, ◌+◌, ◌≤◌, ◌<◌, min, compare}
use native.Mathlib.Omega.{arith}
use Rattle.chars.specs.Case.{lowered}
use Rattle.order.specs.Ordering.{Ordering, also}
use Rattle.order.specs.Compare.{list}
use Rattle.order.specs.Answer.{name_of}
use Rattle.std.specs.declared.cmp.Ordering.{Ordering as Order}
use Rattle.std.specs.declared.cmp.Ordering.TheVariants.{Less, Equal, Greater}
use Rattle.order.proofs.Ordering.{also_eq}
use Rattle.version_parts.specs.declared.fields.Local.{Local}
use Rattle.version_parts.specs.declared.fields.Version.{Version}
use Rattle.version_reading.specs.declared.segment.Segment.{Segment}
use Rattle.version_reading.specs.declared.segment.Segment.TheVariants.{Number, Text}
use Rattle.version_reading.specs.Segment.{segment_of, segment_bytes}
use Rattle.version_reading.specs.Value.{LocalSegment, label_from, value_of}
use Rattle.version_order.specs.Versions.{compare_label}
use Rattle.version_compare.proofs.Steps.{Differs, decided, same}
use Rattle.version_compare.proofs.Places.{on_from, at_start, at_place, at_end}

-- how two segments compare, by their bytes
abbrev pub segments : List ℕ → List ℕ → Ordering
segments a b = compare_label (label_from a) (label_from b)

-- by what the bytes say
module _ (a b : List ℕ) (p q : Segment) (e : p ≡ segment_of a) (f : q ≡ segment_of b) where
  pub two_numbers : (m n : ℕ) (r : Order) → p ≡ Number m → q ≡ Number n → r ≡ name_of (compare m n) → r ≡ name_of (segments a b)
  unfolding compare_label label_from
  two_numbers m n r g h k = rw (← e, ← f, g, h, also_eq) k

  pub number_and_text : (m : ℕ) → p ≡ Number m → q ≡ Text → Greater ≡ name_of (segments a b)
  unfolding compare_label label_from
  number_and_text m g h = rw (← e, ← f, g, h)

  pub text_and_number : (n : ℕ) → p ≡ Text → q ≡ Number n → Less ≡ name_of (segments a b)
  unfolding compare_label label_from
  text_and_number n g h = rw (← e, ← f, g, h)

  pub two_texts : (r : Order) → p ≡ Text → q ≡ Text → r ≡ name_of (list compare (lowered a) (lowered b)) → r ≡ name_of (segments a b)
  unfolding compare_label label_from
  two_texts r g h k = rw (← e, ← f, g, h) k

segment_at : List ℕ → Local → ℕ → LocalSegment
segment_at s l i = label_from (segment_bytes s l i)

-- how two labels of m and n segments compare from place i on
pub segments_from : List ℕ → Local → List ℕ → Local → ℕ → ℕ → ℕ → Ordering
segments_from s a t b m n i = on_from compare_label (segment_at s a) (segment_at t b) m n i

-- a turn of the loop at place i: x and y are the segments there, and r is how they compare
module _ (s : List ℕ) (a : Local) (t : List ℕ) (b : Local) (m n both i : ℕ) (size : both ≡ min m n)
    (rest : segments_from s a t b m n i ≡ segments_from s a t b m n 0)
    (x y : List ℕ) (p : x ≡ segment_bytes s a i) (q : y ≡ segment_bytes t b i) (h : i < both) where
  turn : also (segments x y) (segments_from s a t b m n (i + 1)) ≡ segments_from s a t b m n 0
  unfolding segment_at segments_from
  turn = rw (p, q) (at_place compare_label (segment_at s a) (segment_at t b) m n i rest (omega arith))

  pub segments_agree : (r : Order) → r ≡ name_of (segments x y) → r ≡ Equal → segments_from s a t b m n (i + 1) ≡ segments_from s a t b m n 0
  segments_agree r e f = rw (same r (segments x y) e f) at turn

-- how the labels of two versions compare
abbrev pub labels : List ℕ → Version → List ℕ → Version → Ordering
labels s v t w = list compare_label (value_of s v).label (value_of t w).label

-- the ways out, at place i: m and n segments count
module _ (s : List ℕ) (v : Version) (t : List ℕ) (w : Version) (m n both i : ℕ) (k : m ≡ min v.local.len 16)
    (l : n ≡ min w.local.len 16) (size : both ≡ min m n)
    (rest : segments_from s v.local t w.local m n i ≡ segments_from s v.local t w.local m n 0) where
  whole : segments_from s v.local t w.local m n 0 ≡ labels s v t w
  unfolding segments_from segment_at value_of
  whole = at_start compare_label (segment_at s v.local) (segment_at t w.local) m n ∙ rw (k, l)

  pub segments_differ : (x y : List ℕ) (r : Order) → x ≡ segment_bytes s v.local i → y ≡ segment_bytes t w.local i →
      r ≡ name_of (segments x y) → i < both → Differs r → r ≡ name_of (labels s v t w)
  segments_differ x y r p q e h d =
      rw (← whole, ← turn s v.local t w.local m n both i size rest x y p q h) (decided r (segments x y) _ e d)

  pub segments_end : (r : Order) → r ≡ name_of (compare m n) → i ≤ both → both ≤ i → r ≡ name_of (labels s v t w)
  unfolding segments_from
  segments_end r e h f =
      rw (← whole, ← at_end compare_label (segment_at s v.local) (segment_at t w.local) m n i rest (omega arith)) e
