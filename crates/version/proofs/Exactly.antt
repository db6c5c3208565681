-- A text is refused with a number and a place exactly in the case of that row, and accepted exactly where no row has it.
-- Assumes nothing.
use mathlib.Core.Path.{◌≡◌, ap}
use mathlib.Core.Logic.{◌↔◌}
use mathlib.Core.Bool.{Bool, true, false}
use mathlib.Core.List.{List}
use Prim.Native.Nat.{ℕ, suc}
use native.Mathlib.Omega.{arith}
use Rattle.answers.specs.Refusal.{refusal}
use Rattle.version_reading.specs.declared.text.Verdict.{Verdict}
use Rattle.version_reading.specs.declared.text.Verdict.TheVariants.{Accepted, Refused}
use Rattle.version_reading.specs.Reading.{refused_with, without_wildcard, pattern_as, pattern_of, version_of}
use Rattle.version.specs.Refusals.{Row}
use Rattle.version.proofs.Rows.{refused_in_its_case}
use Rattle.version.proofs.Covering.{some_row, accepted, refused}

-- a verdict has one reason, or none
one_reason : {v : Verdict} {n p m q : ℕ} → v ≡ Refused (refusal n p) → v ≡ Refused (refusal m q) → (n ≡ m) × (p ≡ q)
one_reason {n = n} {p = p} {m = m} {q = q} e f =
    let same : refusal n p ≡ refusal m q = cc in
    (ap (λ r. r.number) same, ap (λ r. r.place) same)

no_reason : {v : Verdict} {n p : ℕ} → v ≡ Accepted → v ≡ Refused (refusal n p) → ⊥
no_reason {n = n} e f = let impossible : n ≡ suc n = cc in omega arith

-- read as a version or as a pattern
module _ (wildcards : Bool) (s : List ℕ) where
  refusal_of_row : {n p : ℕ} → Row wildcards s n p → (pattern_as wildcards s).verdict ≡ Refused (refusal n p)
  refusal_of_row r = ap (λ x. x.verdict) (refused_in_its_case wildcards s _ _ r)

  pub row_of_refusal : (n p : ℕ) → (pattern_as wildcards s).verdict ≡ Refused (refusal n p) → Row wildcards s n p
  row_of_refusal n p e =
      elim (some_row wildcards s) [
        | accepted f ↦ absurd (no_reason f e)
        | refused m q r ↦ let same = one_reason (refusal_of_row r) e in rw (same.0, same.1) at r
      ]

  pub accepted_without_row : ((n p : ℕ) → Row wildcards s n p → ⊥) → (pattern_as wildcards s).verdict ≡ Accepted
  accepted_without_row none = elim (some_row wildcards s) [ accepted e ↦ e | refused n p r ↦ absurd (none n p r) ]

  pub one_row : {n p m q : ℕ} → Row wildcards s n p → Row wildcards s m q → (n ≡ m) × (p ≡ q)
  one_row r t = one_reason (refusal_of_row r) (refusal_of_row t)

  pub refused_exactly : (n p : ℕ) → ((pattern_as wildcards s).verdict ≡ Refused (refusal n p)) ↔ Row wildcards s n p
  refused_exactly n p = (row_of_refusal n p, refusal_of_row)

  pub accepted_exactly : ((pattern_as wildcards s).verdict ≡ Accepted) ↔ ((n p : ℕ) → Row wildcards s n p → ⊥)
  accepted_exactly = (λ e n p r. no_reason e (refusal_of_row r), accepted_without_row)

-- the same of what the two readers give
module _ (s : List ℕ) where
  pub version_refused : (n p : ℕ) → Row false s n p → version_of s ≡ without_wildcard (refused_with n p)
  unfolding version_of
  version_refused n p r = ap without_wildcard (refused_in_its_case false s n p r)

  pub version_refused_exactly : (n p : ℕ) → ((version_of s).verdict ≡ Refused (refusal n p)) ↔ Row false s n p
  unfolding version_of
  version_refused_exactly = refused_exactly false s

  pub version_accepted_exactly : ((version_of s).verdict ≡ Accepted) ↔ ((n p : ℕ) → Row false s n p → ⊥)
  unfolding version_of
  version_accepted_exactly = accepted_exactly false s

  pub pattern_refused : (n p : ℕ) → Row true s n p → pattern_of s ≡ refused_with n p
  pattern_refused = refused_in_its_case true s

  pub pattern_refused_exactly : (n p : ℕ) → ((pattern_of s).verdict ≡ Refused (refusal n p)) ↔ Row true s n p
  pattern_refused_exactly = refused_exactly true s

  pub pattern_accepted_exactly : ((pattern_of s).verdict ≡ Accepted) ↔ ((n p : ℕ) → Row true s n p → ⊥)
  pattern_accepted_exactly = accepted_exactly true s
