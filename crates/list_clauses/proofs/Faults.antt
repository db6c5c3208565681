-- A clause is refused with a number and a place exactly in the case of that row.
-- Assumes nothing.
use Rattle.answers.specs.declared.Refusal.{Refusal}
use Rattle.answers.specs.Refusal.{refusal}
use Rattle.std.specs.Prelude.{Option, Some, None, Ok, Err}
use mathlib.Core.Path.{◌≡◌, refl, ◌∙◌}
use mathlib.Core.Bool.{true}
use mathlib.Core.List.{List}
use Prim.Native.Nat.{ℕ, ◌+◌, ◌≤◌, ◌<◌}
use native.Mathlib.Decide.{ℕ_discrete}
use native.Mathlib.Omega.{arith}
use lib.ListN.{length, drop, length-drop}
use borrow.Author.Tests.{eq-eqb, ne_eqb}
use Rattle.version_reading.specs.declared.text.PatternReading.{PatternReading}
use Rattle.version_reading.specs.Reading.{longest}
use Rattle.version.specs.Refusals.{Row as PatternRow}
use Rattle.version.proofs.Answers.{flag_cases, holds, fails}
use Rattle.version.proofs.Covering.{some_row, accepted, refused}
use Rattle.version.proofs.Exactly.{pattern_refused}
use Rattle.version.proofs.Numbers.{refusal_numbers}
use Rattle.list_clauses.specs.declared.operator.Operator.{Operator}
use Rattle.list_clauses.specs.declared.clause.Clause.{Clause}
use Rattle.list_clauses.specs.Operator.{operator_of}
use Rattle.list_clauses.specs.Clause.{refused_clause, clause_with, stray_wildcard, too_short_for, judged, pattern_clause, clause_of}
use Rattle.list_clauses.specs.Refusals.{OperatorRead, PatternRead, Fault}

-- the clause with the bytes t, of a list that is not too long
module _ (t : List ℕ) (start from : ℕ) (short : length t ≤ longest) where
  -- what a clause comes to, stage by stage
  empty_refused : length t ≡ 0 → clause_of t start from ≡ refused_clause 12 start
  unfolding clause_of
  empty_refused e = rw (eq-eqb _ _ e)

  unoperated : (length t ≡ 0 → ⊥) → operator_of t ≡ None → clause_of t start from ≡ refused_clause 13 from
  unfolding clause_of
  unoperated some e = rw (ne_eqb _ _ some, e)

  operated : {o : Operator} {width : ℕ} → OperatorRead t o width → clause_of t start from ≡ pattern_clause o (drop width t) (from + width)
  unfolding clause_of
  operated a = rw (ne_eqb _ _ a.some, a.found)

  pattern_refused_there : {o : Operator} {width n p : ℕ} → OperatorRead t o width → PatternRow true (drop width t) n p →
      clause_of t start from ≡ refused_clause n (from + width + p)
  unfolding pattern_clause
  pattern_refused_there a r = operated a ∙ rw (pattern_refused _ _ _ r)

  pattern_judged_there : {o : Operator} {width : ℕ} {r : PatternReading} → PatternRead t o width r →
      clause_of t start from ≡ judged o r.wildcard r.version (from + width)
  unfolding pattern_clause
  pattern_judged_there a = operated a.operated ∙ rw (← a.is, a.read)

  within_pattern : (width : ℕ) → length (drop width t) ≤ longest
  within_pattern width = omega (arith, length-drop width t)

  pub fault_refused : {n p : ℕ} → Fault t start from n p → clause_of t start from ≡ refused_clause n p
  unfolding judged
  fault_refused (Fault.empty e) = empty_refused e
  fault_refused (Fault.no_operator some e) = unoperated some e
  fault_refused (Fault.in_pattern o width n p a f) = pattern_refused_there a (PatternRow.within n p (within_pattern width) f)
  fault_refused (Fault.stray_wildcard_there o width r a e) = pattern_judged_there a ∙ rw e
  fault_refused (Fault.labelled o width r a e f) = pattern_judged_there a ∙ rw (e, ne_eqb _ _ f)
  fault_refused (Fault.too_short o width r a e f g) = pattern_judged_there a ∙ rw (e, eq-eqb _ _ f, g)

  -- no row has the number 0
  pub fault_number : {n p : ℕ} → Fault t start from n p → 0 < n
  fault_number (Fault.empty e) = omega arith
  fault_number (Fault.no_operator some e) = omega arith
  fault_number (Fault.in_pattern o width n p a f) = omega (arith, (refusal_numbers (PatternRow.within n p (within_pattern width) f)).0)
  fault_number (Fault.stray_wildcard_there o width r a e) = omega arith
  fault_number (Fault.labelled o width r a e f) = omega arith
  fault_number (Fault.too_short o width r a e f g) = omega arith

  -- every clause is read or has a row
  data Judged : Type 0 where
    faultless : (c : Clause) → clause_of t start from ≡ Ok c → Judged
    faulty : (n p : ℕ) → Fault t start from n p → Judged

  from_pattern : {o : Operator} {width : ℕ} (r : PatternReading) → PatternRead t o width r → Judged
  unfolding judged
  from_pattern {o = o} {width = width} r a =
      elim (flag_cases (stray_wildcard o r.wildcard)) [
        | holds e ↦ faulty 14 _ (Fault.stray_wildcard_there o width r a e)
        | fails e ↦
            elim (ℕ_discrete r.version.local.len 0) [
              | no f ↦ faulty 15 _ (Fault.labelled o width r a e f)
              | yes f ↦
                  elim (flag_cases (too_short_for o r.version.release.len)) [
                    | holds g ↦ faulty 16 _ (Fault.too_short o width r a e f g)
                    | fails g ↦ faultless (clause_with o r.wildcard r.version) (pattern_judged_there a ∙ rw (e, eq-eqb _ _ f, g))
                  ]
            ]
      ]

  from_row : {o : Operator} {width n p : ℕ} → OperatorRead t o width → PatternRow true (drop width t) n p → Judged
  from_row {width = width} a (PatternRow.too_long h) = absurd (omega (arith, within_pattern width))
  from_row {o = o} {width = width} a (PatternRow.within n p k f) = faulty n _ (Fault.in_pattern o width n p a f)

  from_operator : {o : Operator} {width : ℕ} → OperatorRead t o width → Judged
  from_operator {width = width} a =
      elim (some_row true (drop width t)) [
        | accepted e ↦ from_pattern _ (record { operated = a; is = refl; read = e })
        | refused n p r ↦ from_row a r
      ]

  from_first : (length t ≡ 0 → ⊥) → (r : Option (Operator × ℕ)) → operator_of t ≡ r → Judged
  from_first some (Some (o, width)) e = from_operator (record { some = some; found = e })
  from_first some None e = faulty 13 _ (Fault.no_operator some e)

  some_fault : Judged
  some_fault =
      elim (ℕ_discrete (length t) 0) [
        | yes e ↦ faulty 12 start (Fault.empty e)
        | no some ↦ from_first some (operator_of t) refl
      ]

  pub fault_of_refusal : (x : Refusal) → clause_of t start from ≡ Err x → Fault t start from x.number x.place
  fault_of_refusal x e =
      elim some_fault [
        | faultless c g ↦ let impossible : ◌≡◌ {A = ℕ} 0 1 = cc in absurd (omega arith)
        | faulty n p f ↦
            let refused = fault_refused f in
            let same : refusal n p ≡ x = cc in
            rw (← same) f
      ]

  pub read_faultless : (c : Clause) → clause_of t start from ≡ Ok c → ((n p : ℕ) → Fault t start from n p → ⊥)
  read_faultless c e n p f =
      let refused = fault_refused f in
      let impossible : ◌≡◌ {A = ℕ} 0 1 = cc in
      omega arith

  pub faultless_read : ((n p : ℕ) → Fault t start from n p → ⊥) → (c : Clause) × (clause_of t start from ≡ Ok c)
  faultless_read none = elim some_fault [ faultless c e ↦ (c, e) | faulty n p f ↦ absurd (none n p f) ]
