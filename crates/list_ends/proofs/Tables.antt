-- The ranges of a list of clauses: they are its table, and say what the clauses say.
-- Assumes nothing.
use Rattle.std.specs.Prelude.{None}
use mathlib.Core.Path.{◌≡◌, refl, ◌∙◌, ap₂}
use mathlib.Core.Bool.{Bool, true, false, ◌&&◌, cond}
use mathlib.Core.List.{List, [], ◌∷◌, map}
use Prim.Native.Nat.{ℕ, suc, ◌≤◌}
use native.Mathlib.Omega.{arith}
use lib.ListN.{length}
use Rattle.order.specs.All.{All}
use Rattle.order.specs.Preorder.{TotalPreorder, Bounded}
use Rattle.ranges.specs.Cut.{bot, top, before}
use Rattle.ranges.specs.Range.{Range, within, mem}
use Rattle.ranges.specs.Shape.{Shape, holes, all, Proper}
use Rattle.ranges.specs.Table.{Asc, IsTable, Covered}
use Rattle.ranges.proofs.Cuts.{cut_preorder, cut_bounded}
use Rattle.ranges.proofs.Count.{table_length}
use Rattle.ranges.proofs.Table.{is_table, one_table}
use Rattle.ranges.proofs.Longest.{table_longest}
use Rattle.version_reading.specs.Value.{Value}
use Rattle.version_order.specs.Versions.{compare_public}
use Rattle.version_prefix.specs.Prefix.{Held}
use Rattle.version_order.proofs.Orders.{public_laws}
use Rattle.version_roundtrip.proofs.ReadPlaces.{by_cond}
use Rattle.list_clauses.specs.declared.clause.Clause.{Clause}
use Rattle.list_accepting.specs.Accept.{all_accept}
use Rattle.list_clauses.specs.List.{clauses, list_of}
use Rattle.list_ends.specs.Cut.{Place, le_place}
use Rattle.list_ends.specs.Ends.{first_end, second_end, hollow}
use Rattle.list_ends.specs.Shape.{shaped, clause_shape, ranges_of, negated}
use Rattle.list_ends.proofs.Meanings.{agrees, proper}
use Rattle.list_clauses.proofs.Lists.{all_read}

-- places are an order with a lowest and a highest
pub place_preorder : TotalPreorder le_place
place_preorder = cut_preorder public_laws

pub place_bounded : Bounded le_place bot top
place_bounded = cut_bounded compare_public

pub all_proper : (cs : List Clause) → All (Proper le_place) (map clause_shape cs)
all_proper [] = tt
all_proper (c ∷ cs) = (proper c, all_proper cs)

all_agree : (cs : List Clause) (w : Value) → Held w → all le_place (map clause_shape cs) (before w) ≡ all_accept cs w
all_agree [] w held = refl
all_agree (c ∷ cs) w held = ap₂ ◌&&◌ (agrees c w held) (all_agree cs w held)

-- a hole for each `!=`
hole_by : (gap : Bool) (lo hi : Place) (ss : List (Shape Place)) → holes (shaped gap lo hi ∷ ss) ≡ cond gap (suc (holes ss)) (holes ss)
hole_by false lo hi ss = refl
hole_by true lo hi ss = refl

holes_negated : (cs : List Clause) → holes (map clause_shape cs) ≡ negated cs
holes_negated [] = refl
holes_negated (c ∷ cs) =
    rw (hole_by (hollow c.operator) (first_end c) (second_end c) (map clause_shape cs), holes_negated cs)

pub negated_most : (cs : List Clause) → negated cs ≤ length cs
negated_most [] = omega arith
negated_most (c ∷ cs) =
    let rest = negated_most cs in
    by_cond (λ n. n ≤ suc (length cs)) (hollow c.operator) (λ e. omega arith) (λ e. omega arith)

module _ (cs : List Clause) where
  -- they are the table of the clauses, and no other ranges are
  pub ranges_are : IsTable le_place bot top (map clause_shape cs) (ranges_of cs)
  unfolding ranges_of
  ranges_are = is_table place_preorder place_bounded (map clause_shape cs) (all_proper cs)

  pub ranges_only : (T : List (Range Place)) → IsTable le_place bot top (map clause_shape cs) T → T ≡ ranges_of cs
  unfolding ranges_of
  ranges_only = one_table place_preorder place_bounded (map clause_shape cs) (all_proper cs)

  pub ranges_ascend : Asc le_place None (ranges_of cs)
  ranges_ascend = ranges_are.ascends

  -- a stretch that all clauses accept lies inside one range
  pub ranges_longest : (lo hi : Place) → le_place hi lo ≡ false →
      ((c : Place) → within le_place lo hi c ≡ true → all le_place (map clause_shape cs) c ≡ true) → Covered le_place lo hi (ranges_of cs)
  unfolding ranges_of
  ranges_longest = table_longest place_preorder place_bounded (map clause_shape cs) (all_proper cs)

  -- a version lies in a range exactly if each clause accepts it
  pub ranges_hold : (w : Value) → Held w → mem le_place (ranges_of cs) (before w) ≡ all_accept cs w
  ranges_hold w held = ranges_are.holds (before w) refl ∙ all_agree cs w held

  pub ranges_count : length (ranges_of cs) ≤ suc (negated cs)
  unfolding ranges_of
  ranges_count = omega (arith, table_length place_preorder place_bounded (map clause_shape cs) (all_proper cs), holes_negated cs)

pub ranges_most : (s : List ℕ) (cs : List Clause) → list_of s ≡ clauses cs → length (ranges_of cs) ≤ 17
ranges_most s cs e = omega (arith, ranges_count cs, negated_most cs, (all_read s cs e).few)
