-- Where a clause comes from: it is refused, or it was read from a pattern by the pattern's own rules.
-- Assumes nothing.
use Rattle.answers.specs.declared.Refusal.{Refusal}
use Rattle.std.specs.Prelude.{Option, Some, None, Result, Ok, Err}
use mathlib.Core.Path.{◌≡◌, refl}
use mathlib.Core.Bool.{true, false}
use mathlib.Core.List.{List}
use Prim.Native.Nat.{ℕ, zero, suc, ◌+◌, ◌≤◌}
use native.Mathlib.Omega.{arith}
use lib.Dec.{eqb, ltb}
use lib.ListN.{length, drop}
use borrow.Author.Tests.{eqb-true}
use Rattle.order.specs.All.{All}
use Rattle.order.proofs.Elements.{all_append}
use Rattle.version_reading.specs.declared.text.Verdict.{Verdict}
use Rattle.version_reading.specs.declared.text.Verdict.TheVariants.{Accepted, Refused}
use Rattle.version_reading.specs.Reading.{longest, pattern_of}
use Rattle.version.proofs.Answers.{flag_cases, holds, fails}
use Rattle.version.proofs.Exactly.{row_of_refusal}
use Rattle.version.proofs.Numbers.{refusal_numbers}
use Rattle.list_clauses.specs.declared.operator.Operator.{Operator}
use Rattle.list_clauses.specs.declared.clause.Clause.{Clause}
use Rattle.list_clauses.specs.Operator.{operator_of}
use Rattle.list_clauses.specs.Clause.{
  clause_with,
  stray_wildcard,
  too_short_for,
  judged,
  pattern_judged,
  pattern_clause,
  operator_clause,
  clause_of,
}
use Rattle.list_clauses.specs.Step.{part_start, part_end, bytes_in, clause_in, read_there, start_at, first_clauses}

pub data Origin : Clause → Type 0 where
  read : (operator : Operator) (text : List ℕ) → (pattern_of text).verdict ≡ Accepted → (pattern_of text).version.local.len ≡ 0 →
      too_short_for operator (pattern_of text).version.release.len ≡ false → Origin (clause_with operator (pattern_of text).wildcard (pattern_of text).version)

-- a clause that is refused has a number
abbrev pub Comes : Result Clause Refusal → Type 0
Comes (Ok c) = Origin c
Comes (Err x) = 1 ≤ x.number

module _ (operator : Operator) (text : List ℕ) (place : ℕ) where
  judged_origin : (pattern_of text).verdict ≡ Accepted → Comes (judged operator (pattern_of text).wildcard (pattern_of text).version place)
  unfolding judged
  judged_origin a =
      elim (flag_cases (stray_wildcard operator (pattern_of text).wildcard)) [
        | holds e ↦ rw e (omega arith)
        | fails e ↦
            rw e
            (elim (flag_cases (eqb (pattern_of text).version.local.len 0)) [
              | fails f ↦ rw f (omega arith)
              | holds f ↦
                  rw f
                  (elim (flag_cases (too_short_for operator (pattern_of text).version.release.len)) [
                    | holds g ↦ rw g (omega arith)
                    | fails g ↦ rw g (Origin.read operator text a (eqb-true _ _ f) g)
                  ])
            ])
      ]

  verdict_origin : (v : Verdict) → (pattern_of text).verdict ≡ v → Comes (pattern_judged operator place (pattern_of text) v)
  verdict_origin Accepted e = judged_origin e
  verdict_origin (Refused x) e = (refusal_numbers (row_of_refusal true text x.number x.place e)).0

  pattern_origin : Comes (pattern_clause operator text place)
  unfolding pattern_clause
  pattern_origin = verdict_origin (pattern_of text).verdict refl

operator_origin : (bytes : List ℕ) (from : ℕ) (x : Option (Operator × ℕ)) → Comes (operator_clause bytes from x)
operator_origin bytes from (Some (operator, width)) = pattern_origin operator (drop width bytes) (from + width)
operator_origin bytes from None = omega arith

bytes_origin : (bytes : List ℕ) (start from : ℕ) → Comes (clause_of bytes start from)
unfolding clause_of
bytes_origin bytes start from =
    elim (flag_cases (eqb (length bytes) 0)) [
      | holds e ↦ rw e (omega arith)
      | fails e ↦ rw e (operator_origin bytes from (operator_of bytes))
    ]

pub clause_origin : (s : List ℕ) (start : ℕ) → Comes (clause_in s start)
unfolding clause_in
clause_origin s start =
    elim (flag_cases (ltb longest (length s))) [
      | holds e ↦ rw e (omega arith)
      | fails e ↦ rw e (bytes_origin (bytes_in s (part_start s start) (part_end s start)) start (part_start s start))
    ]

there_origin : (r : Result Clause Refusal) → Comes r → All Origin (read_there r)
there_origin (Ok c) o = (o, tt)
there_origin (Err x) o = tt

pub first_origins : (s : List ℕ) (n : ℕ) → All Origin (first_clauses s n)
unfolding first_clauses
first_origins s zero = tt
first_origins s (suc n) =
    let c = clause_in s (start_at s n) in
    all_append Origin (first_clauses s n) (read_there c) (first_origins s n) (there_origin c (clause_origin s (start_at s n)))
