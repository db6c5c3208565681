-- Accepting names a list's refusal exactly in the case of that row, a version's where the list has none, and answers where neither has one.
-- Assumes nothing.
use Rattle.answers.specs.declared.RefusedInput.TheVariants.{First, Second}
use Rattle.std.specs.Prelude.{Err}
use mathlib.Core.Path.{◌≡◌, refl, sym}
use mathlib.Core.Logic.{◌↔◌}
use mathlib.Core.Bool.{Bool, true, false}
use mathlib.Core.List.{List}
use Prim.Native.Nat.{ℕ, suc}
use native.Mathlib.Omega.{arith}
use Rattle.answers.specs.declared.Refusal.{Refusal}
use Rattle.answers.specs.Refusal.{refusal}
use Rattle.answers.specs.YesNo.{yes_or_no}
use Rattle.version_reading.specs.declared.text.Verdict.{Verdict}
use Rattle.version_reading.specs.declared.text.Verdict.TheVariants.{Accepted, Refused as NotRead}
use Rattle.version_reading.specs.Reading.{version_of}
use Rattle.version_reading.specs.Value.{Value, value_in}
use Rattle.version.specs.Refusals.{Row as VersionRow}
use Rattle.version.proofs.Exactly.{version_refused_exactly, version_accepted_exactly}
use Rattle.list_clauses.specs.List.{Listing, refused, clauses, list_of}
use Rattle.list_clauses.specs.Refusals.{Row}
use Rattle.list_clauses.proofs.Rows.{refused_in_its_case, row_of_refusal}
use Rattle.list_clauses.proofs.Exactly.{Listed, NoRow, same_listing, list_read_exactly}
use Rattle.list_accepting.specs.Accept.{all_accept, judged_by, accepted}
use Rattle.list_accepting.proofs.Verdicts.{yes_or_no_other}

-- no row has the version
abbrev pub NoVersionRow : List ℕ → Type 0
NoVersionRow t = (n p : ℕ) → VersionRow false t n p → ⊥

-- what it accepts, by the list and the verdict on the version
named_list : (l : Listing) (v : Verdict) (w : Value) {n p : ℕ} → judged_by l v w ≡ Err (First (refusal n p)) → l ≡ refused n p
named_list (refused m q) v w {n = n} {p = p} e = let same : refusal m q ≡ refusal n p = cc in same_listing same
named_list (clauses cs) (NotRead x) w e = cc
named_list (clauses cs) Accepted w e = absurd (yes_or_no_other (all_accept cs w) _ e)

named_version : (l : Listing) (v : Verdict) (w : Value) (x : Refusal) → judged_by l v w ≡ Err (Second x) → Listed l × (v ≡ NotRead x)
named_version (refused m q) v w x e = let impossible : m ≡ suc m = cc in absurd (omega arith)
named_version (clauses cs) (NotRead y) w x e = ((cs, refl), cc)
named_version (clauses cs) Accepted w x e = absurd (yes_or_no_other (all_accept cs w) (Second x) e)

named_none : (l : Listing) (v : Verdict) (w : Value) (b : Bool) → judged_by l v w ≡ yes_or_no b → Listed l × (v ≡ Accepted)
named_none (refused m q) v w b e = absurd (yes_or_no_other b _ (sym e))
named_none (clauses cs) (NotRead x) w true e = ((cs, refl), cc)
named_none (clauses cs) (NotRead x) w false e = ((cs, refl), cc)
named_none (clauses cs) Accepted w b e = ((cs, refl), refl)

module _ (s t : List ℕ) where
  pub list_named_exactly : (n p : ℕ) → (accepted s t ≡ Err (First (refusal n p))) ↔ Row s n p
  unfolding accepted
  list_named_exactly n p =
      (λ e. row_of_refusal s n p (named_list (list_of s) (version_of t).verdict (value_in t) e), λ r. rw (refused_in_its_case s n p r))

  -- the version is judged where the list is not refused
  pub version_named_exactly : (n p : ℕ) → (accepted s t ≡ Err (Second (refusal n p))) ↔ (NoRow s × VersionRow false t n p)
  unfolding accepted
  version_named_exactly n p = (
    λ e.
        let both = named_version (list_of s) (version_of t).verdict (value_in t) (refusal n p) e in
        ((list_read_exactly s).0 both.0, (version_refused_exactly t n p).0 both.1),
    λ r. rw (((list_read_exactly s).1 r.0).1, (version_refused_exactly t n p).1 r.1),
  )

  pub answered_exactly : ((b : Bool) × (accepted s t ≡ yes_or_no b)) ↔ (NoRow s × NoVersionRow t)
  unfolding accepted
  answered_exactly = (
    λ a.
        let both = named_none (list_of s) (version_of t).verdict (value_in t) a.0 a.1 in
        ((list_read_exactly s).0 both.0, (version_accepted_exactly t).0 both.1),
    λ r.
        let l = (list_read_exactly s).1 r.0 in
        (all_accept l.0 (value_in t), rw (l.1, (version_accepted_exactly t).1 r.1)),
  )
