-- The ways of the functions that read one clause.
-- Assumes nothing.
use Rattle.std.specs.Prelude.{Option, Some, None, Result}
use mathlib.Core.Path.{◌≡◌, refl}
use mathlib.Core.List.{List}
use Prim.Native.Nat.{ℕ, ◌+◌, ◌-◌, ◌≤◌}
use native.Mathlib.Omega.{arith}
use mir.Val.{Fits}
use mir.Syntax.{w64}
use lib.ListN.{length, take, drop, length-drop}
use Rattle.chars.proofs.Cases.{yes_eq, no_eq}
use Rattle.chars.proofs.Parts.{take_rest}
use Rattle.answers.specs.declared.Refusal.{Refusal}
use Rattle.version_reading.specs.declared.text.Verdict.TheVariants.{Accepted, Refused}
use Rattle.version_reading.specs.declared.text.PatternReading.{PatternReading}
use Rattle.version_reading.specs.Reading.{pattern_of}
use Rattle.list_clauses.specs.declared.operator.Operator.{Operator}
use Rattle.list_clauses.specs.declared.clause.Clause.{Clause}
use Rattle.list_clauses.specs.Operator.{operator_of, operator_length}
use Rattle.list_clauses.specs.Clause.{refused_clause, judged, pattern_clause, clause_of}

-- what was read after the operator
module _ (operator : Operator) (text : List ℕ) (place : ℕ) (read : PatternReading) (d : read ≡ pattern_of text) where
  pub pattern_refused : (x : Refusal) → read.verdict ≡ Refused x → refused_clause x.number (place + x.place) ≡ pattern_clause operator text place
  unfolding pattern_clause
  pattern_refused x f = rw (← d, f)

  pub pattern_judged : (q : Result Clause Refusal) → read.verdict ≡ Accepted → q ≡ judged operator read.wildcard read.version place →
      q ≡ pattern_clause operator text place
  unfolding pattern_clause
  pattern_judged q f g = rw (← d, f) g

-- t are the clause's bytes without outer blanks
module _ (t : List ℕ) (start from : ℕ) where
  pub clause_empty : length t ≡ 0 → refused_clause 12 start ≡ clause_of t start from
  unfolding clause_of
  clause_empty f = yes_eq (length t) 0 _ f refl

  -- r is the operator in front of them
  module _ (r : Option (Operator × ℕ)) (some : length t ≡ 0 → ⊥) (f : r ≡ operator_of t) where
    pub clause_missing : r ≡ None → refused_clause 13 from ≡ clause_of t start from
    unfolding clause_of
    clause_missing g = no_eq (length t) 0 _ some (rw (← f, g))

    pub clause_read : (q : Result Clause Refusal) (operator : Operator) (width : ℕ) → r ≡ Some (operator, width) →
        q ≡ pattern_clause operator (take (length t - width) (drop width t)) (from + width) → q ≡ clause_of t start from
    unfolding clause_of
    clause_read q operator width g i =
        let rest : q ≡ pattern_clause operator (drop width t) (from + width) = rw (take_rest t width) at i in
        no_eq (length t) 0 _ some (rw (← f, g) rest)

-- the operator ends within the clause
module _ (t : List ℕ) (r : Option (Operator × ℕ)) (operator : Operator) (width : ℕ) (h : operator_length r ≤ length t) (f : r ≡ Some (operator, width)) where
  pub operator_ends : width ≤ length t
  operator_ends = rw f at h

  module _ (from : ℕ) (some : length t ≡ 0 → ⊥) (room : length t ≤ 1024 - from) where
    pub operator_place : Fits w64 (from + width)
    operator_place = record { fits = omega (arith, operator_ends) }

    pub pattern_room : from + width + length (take (length t - width) (drop width t)) ≤ 1024
    pattern_room = rw (take_rest t width, length-drop width t) (omega (arith, operator_ends))
