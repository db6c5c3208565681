-- A place before a version is the same with and without the version's label.
-- Assumes nothing.
use mathlib.Core.Path.{◌≡◌, refl}
use mathlib.Core.List.{List, [], ◌∷◌}
use Rattle.ranges.specs.Cut.{bot, top, before, after}
use Rattle.ranges.specs.Range.{Range, mem}
use Rattle.version_reading.specs.Value.{Value, without_label}
use Rattle.version_order.proofs.Orders.{unlabelled_right}
use Rattle.list_ends.specs.Cut.{Place, le_place}

unlabelled_place : (p : Place) (w : Value) → le_place p (before w) ≡ le_place p (before (without_label w))
unlabelled_place bot w = refl
unlabelled_place top w = refl
unlabelled_place (before x) w = rw (unlabelled_right x w)
unlabelled_place (after x) w = rw (unlabelled_right x w)

pub unlabelled_mem : (T : List (Range Place)) (w : Value) → mem le_place T (before w) ≡ mem le_place T (before (without_label w))
unlabelled_mem [] w = refl
unlabelled_mem (r ∷ T) w = rw (unlabelled_place r.lo w, unlabelled_place r.hi w, unlabelled_mem T w)
