-- The ways of the functions that say what one clause accepts, and that they need not see labels.
-- Assumes nothing.
use mathlib.Core.Path.{◌≡◌, refl}
use mathlib.Core.Bool.{Bool, true, false, not, ◌&&◌}
use mathlib.Core.List.{List, [], ◌∷◌}
use Prim.Native.Nat.{ℕ}
use Rattle.order.specs.Ordering.{Ordering, lt, eq, gt, is_le, compare_is_eq, is_ge, is_lt, is_gt}
use Rattle.order.specs.Answer.{name_of}
use Rattle.std.specs.declared.cmp.Ordering.{Ordering as Order}
use Rattle.std.specs.Ordering.{is_eq as says_eq, is_ne as says_ne, is_lt as says_lt, is_gt as says_gt, is_le as says_le, is_ge as says_ge}
use Rattle.version_parts.specs.declared.fields.Version.{Version}
use Rattle.version_reading.specs.Value.{Value, value_of}
use Rattle.version_order.specs.Versions.{compare_public}
use Rattle.version_order.proofs.Orders.{blind_left}
use Rattle.version_prefix.specs.Prefix.{prefix_matches, shorter}
use Rattle.version_prefix.proofs.Labels.{match_blind}
use Rattle.list_clauses.specs.declared.operator.Operator.{Operator}
use Rattle.list_clauses.specs.declared.operator.Operator.TheVariants.{Equal, NotEqual, Compatible, AtMost, AtLeast, Below, Above}
use Rattle.list_clauses.specs.declared.clause.Clause.{Clause}
use Rattle.list_accepting.specs.Accept.{equals, holds, clause_accepts, all_accept}

-- what the name of an order says
module _ (r : Order) (q : Bool) where
  pub named_le : (o : Ordering) → r ≡ name_of o → q ≡ says_le r → q ≡ is_le o
  named_le lt e f = rw e at f
  named_le eq e f = rw e at f
  named_le gt e f = rw e at f

  pub named_eq : (o : Ordering) → r ≡ name_of o → q ≡ says_eq r → q ≡ compare_is_eq o
  named_eq lt e f = rw e at f
  named_eq eq e f = rw e at f
  named_eq gt e f = rw e at f

  pub named_ne : (o : Ordering) → r ≡ name_of o → q ≡ says_ne r → q ≡ not (compare_is_eq o)
  named_ne lt e f = rw e at f
  named_ne eq e f = rw e at f
  named_ne gt e f = rw e at f

  pub named_ge : (o : Ordering) → r ≡ name_of o → q ≡ says_ge r → q ≡ is_ge o
  named_ge lt e f = rw e at f
  named_ge eq e f = rw e at f
  named_ge gt e f = rw e at f

  pub named_lt : (o : Ordering) → r ≡ name_of o → q ≡ says_lt r → q ≡ is_lt o
  named_lt lt e f = rw e at f
  named_lt eq e f = rw e at f
  named_lt gt e f = rw e at f

  pub named_gt : (o : Ordering) → r ≡ name_of o → q ≡ says_gt r → q ≡ is_gt o
  named_gt lt e f = rw e at f
  named_gt eq e f = rw e at f
  named_gt gt e f = rw e at f

-- `==V`, and with a wildcard `==V.*`
module _ (wildcard : Bool) (v w : Value) (r : Bool) where
  pub equal_by_match : wildcard ≡ true → r ≡ prefix_matches v w → r ≡ equals wildcard v w
  equal_by_match e f = rw e f

  pub equal_by_order : wildcard ≡ false → r ≡ compare_is_eq (compare_public w v) → r ≡ equals wildcard v w
  equal_by_order e f = rw e f

-- the operator is found
module _ (o : Operator) (wildcard : Bool) (v w : Value) (r : Bool) where
  pub by_equal : o ≡ Equal → r ≡ equals wildcard v w → r ≡ holds o wildcard v w
  unfolding holds
  by_equal e f = rw e f

  pub by_not_equal : o ≡ NotEqual → r ≡ equals wildcard v w → not r ≡ holds o wildcard v w
  unfolding holds
  by_not_equal e f = rw (e, f)

  pub by_unlike : o ≡ NotEqual → r ≡ not (equals wildcard v w) → r ≡ holds o wildcard v w
  unfolding holds
  by_unlike e f = rw e f

  pub by_compatible : o ≡ Compatible → r ≡ is_ge (compare_public w v) && prefix_matches (shorter v) w → r ≡ holds o wildcard v w
  unfolding holds
  by_compatible e f = rw e f

  pub by_at_most : o ≡ AtMost → r ≡ is_le (compare_public w v) → r ≡ holds o wildcard v w
  unfolding holds
  by_at_most e f = rw e f

  pub by_at_least : o ≡ AtLeast → r ≡ is_ge (compare_public w v) → r ≡ holds o wildcard v w
  unfolding holds
  by_at_least e f = rw e f

  pub by_below : o ≡ Below → r ≡ is_lt (compare_public w v) → r ≡ holds o wildcard v w
  unfolding holds
  by_below e f = rw e f

  pub by_above : o ≡ Above → r ≡ is_gt (compare_public w v) → r ≡ holds o wildcard v w
  unfolding holds
  by_above e f = rw e f

-- where a candidate's label lies is nothing to what clauses accept
module _ (t : List ℕ) (w : Version) where
  blind_equals : (wildcard : Bool) (v : Value) → equals wildcard v (value_of [] w) ≡ equals wildcard v (value_of t w)
  blind_equals false v = rw (blind_left [] t w v)
  blind_equals true v = match_blind [] t v w

  blind_holds : (o : Operator) (wildcard : Bool) (v : Value) → holds o wildcard v (value_of [] w) ≡ holds o wildcard v (value_of t w)
  unfolding holds
  blind_holds Equal wildcard v = blind_equals wildcard v
  blind_holds NotEqual wildcard v = rw (blind_equals wildcard v)
  blind_holds Compatible wildcard v = rw (blind_left [] t w v, match_blind [] t (shorter v) w)
  blind_holds AtMost wildcard v = rw (blind_left [] t w v)
  blind_holds AtLeast wildcard v = rw (blind_left [] t w v)
  blind_holds Below wildcard v = rw (blind_left [] t w v)
  blind_holds Above wildcard v = rw (blind_left [] t w v)

  pub blind_clause : (c : Clause) → clause_accepts c (value_of [] w) ≡ clause_accepts c (value_of t w)
  blind_clause c = blind_holds c.operator c.wildcard (value_of [] c.version)

  pub blind_all : (cs : List Clause) → all_accept cs (value_of [] w) ≡ all_accept cs (value_of t w)
  blind_all [] = refl
  blind_all (c ∷ cs) = rw (blind_clause c, blind_all cs)
