-- Rows compare, number by number, as their places do.
-- Assumes nothing.
use mathlib.Core.Path.{◌≡◌, refl, sym, ◌∙◌, ap}
use mathlib.Core.List.{[], ◌∷◌}
use Prim.Native.Nat.{ℕ, ◌≤◌, compare}
use lib.ListN.{length}
use Rattle.order.specs.Ordering.{also, is_le}
use Rattle.order.specs.Compare.{padded}
use Rattle.order.specs.Preorder.{at_most}
use Rattle.order.proofs.Ordering.{also_eq}
use Rattle.order.proofs.Padded.{padded_append}
use Rattle.ranges.specs.Cut.{bot, top, before, after, compare_cuts}
use Rattle.version_reading.specs.Value.{Value}
use Rattle.version_order.specs.Versions.{compare_public}
use Rattle.version_rows.specs.Row.{row_of}
use Rattle.version_rows.proofs.Compared.{row_long, rows_compare as versions-compare}
use Rattle.list_ends.specs.Cut.{Place, le_place}
use Rattle.list_fold.specs.Row.{version_row, key_row, Short}

version_compare : (v w : Value) (x y : ℕ) → length v.release ≤ 16 → length w.release ≤ 16
    → padded compare 0 (version_row x v) (version_row y w) ≡ also (compare_public v w) (compare x y)
version_compare v w x y h k =
    padded_append compare 0 (row_of v) (row_of w) (x ∷ []) (y ∷ []) (row_long v h ∙ sym (row_long w k))
    ∙ rw (versions-compare v w h k, also_eq (compare x y))

cut_compare : (p q : Place) → Short p → Short q → padded compare 0 (key_row p) (key_row q) ≡ compare_cuts compare_public p q
unfolding key_row
cut_compare bot bot h k = refl
cut_compare bot top h k = refl
cut_compare bot (before w) h k = refl
cut_compare bot (after w) h k = refl
cut_compare top bot h k = refl
cut_compare top top h k = refl
cut_compare top (before w) h k = refl
cut_compare top (after w) h k = refl
cut_compare (before v) bot h k = refl
cut_compare (before v) top h k = refl
cut_compare (before v) (before w) h k = version_compare v w 0 0 h k
cut_compare (before v) (after w) h k = version_compare v w 0 1 h k
cut_compare (after v) bot h k = refl
cut_compare (after v) top h k = refl
cut_compare (after v) (before w) h k = version_compare v w 1 0 h k
cut_compare (after v) (after w) h k = version_compare v w 1 1 h k

pub rows_compare : (p q : Place) → Short p → Short q → at_most (padded compare 0) (key_row p) (key_row q) ≡ le_place p q
rows_compare p q h k = ap is_le (cut_compare p q h k)
