-- Laws of the numbers that are written in a row.
-- Assumes nothing.
use Rattle.std.specs.Prelude.{Option, None, Some}
use mathlib.Core.Path.{◌≡◌, refl, sym, ap, ◌∙◌}
use mathlib.Core.List.{List, [], ◌∷◌, ◌++◌, append-nil, append_assoc}
use Prim.Native.Nat.{ℕ, suc, ◌+◌, ◌-◌, ◌*◌, ◌≤◌, ◌<◌}
use native.Mathlib.Nat.{zero-add}
use native.Mathlib.Numerals.{add-one}
use native.Mathlib.Omega.{arith}
use lib.ListN.{length, length-append, take, drop}
use lib.Seq.{sets, sets-eq, length-sets, drop-drop, drop-length}
use borrow.Author.Tests.{le-leb}
use borrow.Rule.Slice.PartMut.{put_mid}
use Rattle.answers.specs.declared.Refusal.{Refusal}
use Rattle.chars.specs.Class.{front}
use Rattle.decimal.specs.Parse.{value_from, number_of}
use Rattle.version_parts.specs.declared.fields.Local.{Local}
use Rattle.version_parts.specs.declared.fields.Span.{Span}
use Rattle.version_parts.specs.declared.fields.Version.{Version}
use Rattle.version_reading.specs.declared.segment.Segment.{Segment}
use Rattle.version_reading.specs.declared.text.Verdict.{Verdict}
use Rattle.version_reading.specs.declared.text.Verdict.TheVariants.{Accepted, Refused}
use Rattle.version_reading.specs.Segment.{segment_of, segment_bytes}
use Rattle.decimal.specs.Put.{Wrote}
use Rattle.decimal.proofs.Puts.{then}
use Rattle.boundary_fields.specs.declared.pair.Pair.{Pair}
use Rattle.boundary_fields.specs.Pair.{segment_pair}
use Rattle.boundary_fields.specs.Fields.{span_at, parts, row, segment_row, segment_rows, fields_of, fields_by, fields_said}

-- the numbers over a part of as many
pub part_stored : (l s part : List ℕ) (at : ℕ) → at + length s ≤ length l → part ≡ s → put_mid at (at + length s - at) l part ≡ sets l at s
part_stored l s part at h f =
    let size : at + length s - at ≡ length s = omega arith in
    rw (size, f, sets-eq s l at h, drop-drop) (sym (append_assoc (take at l) s (drop (at + length s) l)))

-- one row more
pub row_next : (s : List ℕ) (local : Local) (l new t : List ℕ) (at i : ℕ) → i < 16 → sets l (at + 4 * i) (segment_rows s local i (16 - i)) ≡ t → new ≡ sets l (at + 4 * i) (segment_row s local i) → sets new (at + 4 * (i + 1)) (segment_rows s local (i + 1) (16 - (i + 1))) ≡ t
unfolding segment_row segment_rows
row_next s local l new t at i h e w =
    let left : 16 - i ≡ suc (16 - suc i) = omega arith in
    let place : at + 4 * (i + 1) ≡ suc (suc (suc (suc (at + 4 * i)))) = omega arith in
    let step : sets l (at + 4 * i) (segment_row s local i ++ segment_rows s local (suc i) (16 - suc i)) ≡ t = ap (λ n. sets l (at + 4 * i) (segment_rows s local i n)) (sym left) ∙ e in
    rw (w, place, add-one i) step

-- no row is left
pub rows_done : (s : List ℕ) (local : Local) (l t : List ℕ) (at i : ℕ) → 16 ≤ i → i ≤ 16 → sets l (at + 4 * i) (segment_rows s local i (16 - i)) ≡ t → l ≡ t
unfolding segment_rows
rows_done s local l t at i h g e =
    let none : 16 - i ≡ 0 = omega arith in
    ap (λ n. sets l (at + 4 * i) (segment_rows s local i n)) (sym none) ∙ e

-- what a segment says and where it lies are its row
pub row_is : (s : List ℕ) (local : Local) (i at : ℕ) (b l new : List ℕ) (x : Segment) (p : Pair) (g : Span) → b ≡ segment_bytes s local i → x ≡ segment_of b → p ≡ segment_pair x → g ≡ span_at local i → new ≡ sets l at (row p g) → new ≡ sets l at (segment_row s local i)
unfolding segment_row
row_is s local i at b l new x p g e f h k w = w ∙ rw (h, f, e, k)

pub row_missing : (s : List ℕ) (local : Local) (i at : ℕ) (l new : List ℕ) (g : Span) → local.len ≤ i → g ≡ span_at local i → new ≡ sets l at (0 ∷ 0 ∷ g.start ∷ g.end ∷ []) → new ≡ sets l at (segment_row s local i)
unfolding segment_row segment_bytes segment_of number_of value_from front
row_missing s local i at l new g h k w = w ∙ rw (le-leb local.len i h, k)

-- the three in a row fill the fields
pub fields_full : (s : List ℕ) (v : Version) (l a b c : List ℕ) → length v.release.numbers ≡ 16 → a ≡ sets l 0 (parts v) → b ≡ sets a 9 v.release.numbers → c ≡ sets b 25 (segment_rows s v.local 0 16) → length l ≡ 89 → c ≡ fields_of s v
unfolding fields_of segment_row segment_rows
fields_full s v l a b c many first second third size =
    let text = fields_of s v in
    let p : Wrote l 0 (parts v) a 9 = record { bytes = first; moved = refl; size = omega arith } in
    let q : Wrote a 9 v.release.numbers b 25 = record { bytes = second; moved = omega arith; size = omega (arith, ap length first ∙ length-sets l 0 (parts v)) } in
    let r : Wrote b 25 (segment_rows s v.local 0 16) c 89 = record { bytes = third; moved = refl; size = omega (arith, ap length first ∙ length-sets l 0 (parts v), ap length second ∙ length-sets a 9 v.release.numbers) } in
    let whole : length text ≡ 89 = omega (arith, length-append v.release.numbers (segment_rows s v.local 0 16)) in
    let none : drop (length text) l ≡ [] = ap (λ n. drop n l) (whole ∙ sym size) ∙ drop-length l in
    (then p (then q r)).bytes ∙ sets-eq text l 0 (omega arith) ∙ ap (λ n. text ++ drop n l) (zero-add (length text)) ∙ ap (λ rest. text ++ rest) none ∙ append-nil text

-- by the verdict
pub fields_accepted : (s : List ℕ) (v : Version) (old new : List ℕ) (x : Verdict) → x ≡ Accepted → new ≡ fields_of s v → new ≡ fields_by x s v old
fields_accepted s v old new x e f = rw e f

pub fields_refused : (s : List ℕ) (v : Version) (old : List ℕ) (x : Verdict) (refusal : Refusal) → x ≡ Refused refusal → old ≡ fields_by x s v old
fields_refused s v old x refusal e = rw e

-- and by whether there is one
pub said_given : (s : List ℕ) (v : Version) (old new : List ℕ) (says : Option Verdict) (x : Verdict) → says ≡ Some x → new ≡ fields_by x s v old → new ≡ fields_said says s v old
said_given s v old new says x e f = rw e f

pub said_nothing : (s : List ℕ) (v : Version) (old : List ℕ) (says : Option Verdict) → says ≡ None → old ≡ fields_said says s v old
said_nothing s v old says e = rw e
