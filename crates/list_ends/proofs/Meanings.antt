-- The shape of a clause accepts what the clause does, and is proper.
-- Assumes nothing.
use Rattle.std.specs.Prelude.{Option, None, Some}
use mathlib.Core.Path.{◌≡◌, refl, sym, ◌∙◌, ap}
use mathlib.Core.Bool.{Bool, true, false, not, ◌&&◌}
use mathlib.Mathlib.Data.Bool.Basic.{eq-false_of_not-eq-true'}
use Prim.Native.Nat.{◌-◌}
use lib.ListN.{length}
use Rattle.order.specs.Ordering.{is_le, is_ge}
use Rattle.order.proofs.Preorder.{at_most_preorder}
use Rattle.ranges.specs.Cut.{before}
use Rattle.ranges.specs.Range.{within}
use Rattle.ranges.specs.Shape.{accepts, Proper}
use Rattle.ranges.proofs.Cuts.{past_before}
use Rattle.ranges.proofs.Plain.{
  accepts_equal_to,
  accepts_other_than,
  accepts_up_to,
  accepts_from,
  accepts_below,
  accepts_above,
  other_than_proper,
}
use Rattle.version_reading.specs.Value.{Value}
use Rattle.version_order.specs.Versions.{compare_public}
use Rattle.version_prefix.specs.Prefix.{prefix_matches, shorter, prefix_start, prefix_end, ends_above, Held}
use Rattle.version_order.proofs.Orders.{public_laws}
use Rattle.version_prefix.proofs.Matches.{prefix_law, prefix_proper, prefix_starts}
use Rattle.list_clauses.specs.declared.operator.Operator.{Operator}
use Rattle.list_clauses.specs.declared.operator.Operator.TheVariants.{Equal, NotEqual, Compatible, AtMost, AtLeast, Below, Above}
use Rattle.list_clauses.specs.declared.clause.Clause.{Clause}
use Rattle.list_accepting.specs.Accept.{holds, clause_value, clause_accepts}
use Rattle.list_ends.specs.Cut.{le_place}
use Rattle.list_ends.specs.Ends.{ends_before, match_end}
use Rattle.list_ends.specs.Shape.{shape_of, clause_shape}

-- not past the end of a match
under_end : (end : Option Value) (w : Value) → not (le_place (ends_before end) (before w)) ≡ ends_above end w
under_end None w = refl
under_end (Some end) w = ap not (past_before compare_public end w)

-- a test that another one implies
implied : (p q r : Bool) → (p ≡ true → q ≡ true) → p && r ≡ p && (q && r)
implied true q r f = rw (f refl)
implied false q r f = refl

module _ (v w : Value) (held : Held w) where
  matches : within le_place (before (prefix_start v)) (match_end v) (before w) ≡ prefix_matches v w
  matches = rw (past_before compare_public (prefix_start v) w, under_end (prefix_end v) w) (sym (prefix_law v w held))

  -- what is at least v is past the start of a match with fewer of its numbers
  past_start : is_le (compare_public v w) ≡ true → is_le (compare_public (prefix_start (shorter v)) w) ≡ true
  past_start e = (at_most_preorder public_laws).trans (prefix_starts (length v.release - 1) v) e

  compatible : within le_place (before v) (match_end (shorter v)) (before w) ≡ is_ge (compare_public w v) && prefix_matches (shorter v) w
  compatible =
      rw (past_before compare_public v w, under_end (prefix_end (shorter v)) w, prefix_law (shorter v) w held, ← public_laws.turn w v)
      (implied (is_le (compare_public v w)) (is_le (compare_public (prefix_start (shorter v)) w)) (ends_above (prefix_end (shorter v)) w) past_start)

  by_operator : (o : Operator) (wildcard : Bool) → accepts le_place (shape_of o wildcard v) (before w) ≡ holds o wildcard v w
  unfolding holds
  by_operator Equal false = accepts_equal_to public_laws v w
  by_operator Equal true = matches
  by_operator NotEqual false = accepts_other_than public_laws v w
  by_operator NotEqual true = ap not matches
  by_operator Compatible wildcard = compatible
  by_operator AtMost wildcard = accepts_up_to public_laws v w
  by_operator AtLeast wildcard = accepts_from public_laws v w
  by_operator Below wildcard = accepts_below public_laws v w
  by_operator Above wildcard = accepts_above public_laws v w

pub agrees : (c : Clause) (w : Value) → Held w → accepts le_place (clause_shape c) (before w) ≡ clause_accepts c w
agrees c w held = by_operator (clause_value c) w held c.operator c.wildcard

proper_by : (v : Value) (o : Operator) (wildcard : Bool) → Proper le_place (shape_of o wildcard v)
proper_by v Equal false = tt
proper_by v Equal true = tt
proper_by v NotEqual false = other_than_proper public_laws v
proper_by v NotEqual true = eq-false_of_not-eq-true' (under_end (prefix_end v) (prefix_start v) ∙ prefix_proper v)
proper_by v Compatible wildcard = tt
proper_by v AtMost wildcard = tt
proper_by v AtLeast wildcard = tt
proper_by v Below wildcard = tt
proper_by v Above wildcard = tt

pub proper : (c : Clause) → Proper le_place (clause_shape c)
proper c = proper_by (clause_value c) c.operator c.wildcard
