-- The ways out of `keep`, and the turns of the loop of `clip`.
-- Assumes nothing.
use mathlib.Core.Path.{◌≡◌, sym, ◌∙◌}
use mathlib.Core.Bool.{Bool, true, false}
use mathlib.Core.List.{List, [], ◌∷◌, ◌++◌, map, map-append, append_assoc, append-nil}
use Prim.Native.Nat.{ℕ, suc, ◌+◌, ◌≤◌, ◌<◌}
use native.Mathlib.Numerals.{add-one}
use native.Mathlib.Omega.{arith}
use lib.ListN.{length, take, get_or}
use lib.Seq.{take-suc, take_all}
use Rattle.ranges.specs.Range.{Range}
use Rattle.ranges.specs.Compile.{keep, clip, step}
use Rattle.ranges.proofs.Grow.{clip_snoc}
use Rattle.list_ends.specs.Shape.{shaped}
use Rattle.list_fold.specs.declared.numbered_ranges.NumberedRange.{NumberedRange}
use Rattle.list_fold.specs.declared.numbered_ranges.NumberedRanges.{NumberedRanges}
use Rattle.list_fold.specs.Row.{le_row}
use Rattle.list_fold.specs.Ranges.{range_of, ranges_in, packed, Holds}
use Rattle.list_fold.specs.Folded.{PartKept}
use Rattle.list_fold.proofs.Packed.{held, settled, restated}

-- one range more
pub said_suc : (l : List NumberedRange) (i : ℕ) (blank : NumberedRange) → i < length l →
    map range_of (take (suc i) l) ≡ map range_of (take i l) ++ (range_of (get_or l i blank) ∷ [])
said_suc l i blank h = rw (take-suc l i blank h, map-append range_of (take i l) (get_or l i blank ∷ []))

module _ (rows : List ℕ) where
  module _ (ranges : NumberedRanges) (x : NumberedRange) (empty : Bool) (test : empty ≡ le_row rows x.high x.low) where
    -- an empty range goes
    pub kept_none : (most : ℕ) → Holds most (ranges_in ranges) ranges → empty ≡ true
        → Holds (ranges.count + 1) (ranges_in ranges ++ keep (le_row rows) (range_of x) []) ranges
    kept_none most h e = restated _ _ h (rw (← test, e, append-nil (ranges_in ranges))) (omega arith)

    pub kept_one : (r : NumberedRanges) → Holds (ranges.count + 1) (ranges_in ranges ++ (range_of x ∷ [])) r → empty ≡ false
        → Holds (ranges.count + 1) (ranges_in ranges ++ keep (le_row rows) (range_of x) []) r
    kept_one r h e = restated _ _ h (rw (← test, e)) (omega arith)

-- after the others, the parts of the first i ranges
pub record Clipped (rows : List ℕ) (low high : ℕ) (l : List NumberedRange) (others : NumberedRanges) (i : ℕ) (parts : NumberedRanges) : Type 0 where
  pub holds : Holds (others.count + i) (ranges_in others ++ clip (le_row rows) low high (map range_of (take i l))) parts

module _ (rows : List ℕ) (low high : ℕ) (l : List NumberedRange) (others : NumberedRanges) where
  pub clip_start : (most : ℕ) → Holds most (ranges_in others) others → Clipped rows low high l others 0 others
  clip_start most h = record { holds = restated _ _ h (sym (append-nil (ranges_in others))) (omega arith) }

  module _ (i : ℕ) (parts : NumberedRanges) (inv : Clipped rows low high l others i parts) where
    pub clip_room : Holds parts.count (ranges_in parts) parts
    clip_room = settled inv.holds

    pub clip_turn : (r : NumberedRanges) (blank : NumberedRange) → i < length l →
        PartKept rows parts low high (get_or l i blank) r → Clipped rows low high l others (i + 1) r
    clip_turn r blank h k =
        let before : List (Range ℕ) = clip (le_row rows) low high (map range_of (take i l)) in
        record {
          holds =
              restated _ _ k.holds
              (rw (
                held inv.holds,
                add-one i,
                said_suc l i blank h,
                clip_snoc (le_row rows) low high (map range_of (take i l)) (range_of (get_or l i blank)),
              ) (append_assoc (ranges_in others) before _))
              (omega (arith, inv.holds.few, k.holds.few));
        }

pub clip_end : (rows : List ℕ) (old others parts : NumberedRanges) (l : List NumberedRange) (low high i : ℕ) → l ≡ take old.count old.list →
    length l ≤ old.count → i ≤ length l → length l ≤ i → Clipped rows low high l others i parts →
    Holds (others.count + old.count) (ranges_in others ++ clip (le_row rows) low high (ranges_in old)) parts
unfolding ranges_in
clip_end rows old others parts l low high i e few h k inv =
    restated _ _ inv.holds (rw (take_all i l k, e)) (omega (arith, inv.holds.few))

-- the ways out of `cut_down`
module _ (rows : List ℕ) (old none : NumberedRanges) (blank : Holds 0 [] none) where
  -- nothing stands before the parts
  after_none : (low high most : ℕ) (r : NumberedRanges) → Holds most (ranges_in none ++ clip (le_row rows) low high (ranges_in old)) r
      → r ≡ packed (clip (le_row rows) low high (ranges_in old))
  after_none low high most r h = rw (held blank) at h.is

  pub spans : (low high most : ℕ) (hollow : Bool) (r : NumberedRanges) → Holds most (ranges_in none ++ clip (le_row rows) low high (ranges_in old)) r
      → hollow ≡ false → r ≡ packed (step (le_row rows) 0 1 (shaped hollow low high) (ranges_in old))
  spans low high most hollow r h e = rw e (after_none low high most r h)

  pub leaves_hole : (low high most more : ℕ) (hollow : Bool) (below r : NumberedRanges) → Holds most (ranges_in none ++ clip (le_row rows) 0 low (ranges_in old)) below
      → Holds more (ranges_in below ++ clip (le_row rows) high 1 (ranges_in old)) r → hollow ≡ true
      → r ≡ packed (step (le_row rows) 0 1 (shaped hollow low high) (ranges_in old))
  leaves_hole low high most more hollow below r h k e =
      let first : ranges_in below ≡ clip (le_row rows) 0 low (ranges_in old) = held h ∙ rw (held blank) in
      rw (e, ← first) k.is
