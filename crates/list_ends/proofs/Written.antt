-- Every end of the ranges of an accepted list is none, or a version that can be written.
-- Assumes nothing.
use Rattle.std.specs.Prelude.{Option, None, Some}
use mathlib.Core.Path.{◌≡◌, refl}
use mathlib.Core.Bool.{false, ◌&&◌}
use mathlib.Core.List.{List, [], ◌∷◌, map}
use Prim.Native.Nat.{ℕ}
use Rattle.order.specs.All.{All}
use Rattle.order.proofs.Preorder.{not_top, not_bot}
use Rattle.ranges.specs.Cut.{bot, top, before, after}
use Rattle.ranges.specs.Range.{Range}
use Rattle.ranges.specs.Shape.{lower_end, upper_end}
use Rattle.ranges.specs.Table.{Asc, first, Firsts}
use Rattle.ranges.proofs.Truth.{by_test}
use Rattle.list_clauses.specs.declared.clause.Clause.{Clause}
use Rattle.list_clauses.specs.List.{clauses, list_of}
use Rattle.list_ends.specs.Cut.{Place, le_place}
use Rattle.list_ends.specs.Shape.{clause_shape, ranges_of}
use Rattle.list_ends.specs.Sound.{Sound}
use Rattle.list_ends.specs.Writable.{Lower, Upper, Written}
use Rattle.list_ends.proofs.Sounds.{clauses_sound}
use Rattle.list_ends.proofs.Writables.{Holds, shape_holds}
use Rattle.list_ends.proofs.Tables.{place_bounded, ranges_are}

-- the first of a list that equals e is one of the list
first_holds : (e x : Place) (l : List Place) → All Holds l → first le_place e l ≡ Some x → Holds x
first_holds e x [] a = λ f. let z : top ≡ x = cc in rw (← z) tt
first_holds e x (y ∷ l) a =
    by_test (λ o. o ≡ Some x → Holds x) (le_place y e && le_place e y) (Some y) (first le_place e l)
    (λ t f. let z : y ≡ x = cc in rw (← z) a.0) (λ t. first_holds e x l a.1)

-- the ends that the clauses give
abbrev lows : List Clause → List Place
lows cs = map lower_end (map clause_shape cs)

abbrev highs : List Clause → List Place
highs cs = map upper_end (map clause_shape cs)

lower_ends : (cs : List Clause) → All Sound cs → All Holds (lows cs)
lower_ends [] a = tt
lower_ends (c ∷ cs) a = ((shape_holds c a.0).0, lower_ends cs a.1)

upper_ends : (cs : List Clause) → All Sound cs → All Holds (highs cs)
upper_ends [] a = tt
upper_ends (c ∷ cs) a = ((shape_holds c a.0).1, upper_ends cs a.1)

-- nothing lies strictly above top or below bot
as_lower : (p q : Place) → Holds p → le_place q p ≡ false → Lower p
as_lower bot q h e = tt
as_lower top q h e = not_top place_bounded top q e refl
as_lower (before v) q h e = h
as_lower (after v) q h e = h

as_upper : (p q : Place) → Holds p → le_place p q ≡ false → Upper p
as_upper bot q h e = not_bot place_bounded bot q e refl
as_upper top q h e = tt
as_upper (before v) q h e = h
as_upper (after v) q h e = h

module _ (cs : List Clause) (sound : All Sound cs) where
  all_written : (b : Option Place) (T : List (Range Place)) → Asc le_place b T → Firsts le_place bot top (map clause_shape cs) T → All Written T
  all_written b [] a f = tt
  all_written b (r ∷ T) a f = (one, all_written (Some r.hi) T a.2 f.1)
    where
      one : Written r
      one = record {
        lower = as_lower r.lo r.hi (first_holds r.lo r.lo (bot ∷ lows cs) (tt, lower_ends cs sound) f.0.0) a.1;
        upper = as_upper r.hi r.lo (first_holds r.hi r.hi (top ∷ highs cs) (tt, upper_ends cs sound) f.0.1) a.1;
      }

pub ends_written : (s : List ℕ) (cs : List Clause) → list_of s ≡ clauses cs → All Written (ranges_of cs)
ends_written s cs e = all_written cs (clauses_sound s cs e) None (ranges_of cs) (ranges_are cs).ascends (ranges_are cs).firsts
