-- The ways of the functions that give an end by its number.
-- Assumes nothing.
use Rattle.answers.specs.declared.Refusal.{Refusal}
use Rattle.std.specs.Prelude.{Result, Ok, Err, IfOk}
use mathlib.Core.Path.{◌≡◌, refl, sym, ◌∙◌, ap}
use mathlib.Core.List.{List}
use Prim.Native.Nat.{ℕ, suc, ◌+◌, ◌-◌, ◌*◌, ◌/◌, ◌%◌, ◌≤◌, ◌<◌}
use native.Mathlib.Omega.{arith}
use Rattle.version_parts.specs.declared.fields.Version.{Version}
use Rattle.version_parts.specs.Fields.{no_version}
use Rattle.list_clauses.specs.declared.clause.Clause.{Clause}
use Rattle.list_clauses.specs.declared.step.Part.{Part}
use Rattle.list_clauses.specs.declared.step.Step.{Step}
use Rattle.list_clauses.specs.Step.{part_at, clause_in, step_at}
use Rattle.list_ends.specs.declared.end.End.{End}
use Rattle.list_ends.specs.declared.end.Side.TheVariants.{Before, After}
use Rattle.list_ends.specs.End.{bottom, topmost, end_at, most, EndIs}
use Rattle.list_ends.specs.Ends.{first_end, second_end}
use Rattle.list_ends.specs.Number.{blank_clause, end_of, place_from, place_number}
use Rattle.list_ends.proofs.Given.{made_bottom, made_topmost, elsewhere}

-- the ends of a clause that is refused
blank_before : {v : Version} → v ≡ no_version → EndIs (first_end blank_clause) 16 (end_at Before v)
blank_before h = rw h (record { is = refl; few = omega arith; size = refl })

blank_after : {v : Version} → v ≡ no_version → EndIs (second_end blank_clause) 16 (end_at After v)
blank_after h = rw h (record { is = refl; few = omega arith; size = refl })

-- after i clauses, the end that is left to find is the same
module _ (s : List ℕ) (start n i : ℕ) (same : place_from s start (n - 2 * i) ≡ place_from s 0 n) where
  pub end_onward : (passed : Part) → passed ≡ part_at s start → i < n / 2 → place_from s passed.next (n - 2 * (i + 1)) ≡ place_from s 0 n
  unfolding place_from
  end_onward passed e h =
      let two : n - 2 * i ≡ suc (suc (n - 2 * (i + 1))) = omega arith in
      rw e (rw two at same)

  module _ (x : Step) (e : x ≡ step_at s start) (no_more : i ≤ n / 2) (all : n / 2 ≤ i) where
    clause_is : (q : Result Clause Refusal) → x.clause ≡ q → clause_in s start ≡ q
    unfolding step_at
    clause_is q g = ap (λ y. y.clause) (sym e) ∙ g

    module _ (c : Clause) (r : End) (g : x.clause ≡ Ok c) (few : IfOk x.clause (λ d. d.version.release.len ≤ 16)) where
      within : c.version.release.len ≤ 16
      within = rw g at few

      pub end_first : n % 2 ≡ 0 → EndIs (first_end c) (most c.version) r → EndIs (place_from s 0 n) 16 r
      unfolding place_from
      end_first z h =
          let left : n - 2 * i ≡ 0 = omega arith in
          elsewhere (place_from s 0 n) 16 h (ap (end_of first_end) (sym (clause_is (Ok c) g)) ∙ (rw left at same)) (omega (arith, within))

      pub end_second : (n % 2 ≡ 0 → ⊥) → EndIs (second_end c) (most c.version) r → EndIs (place_from s 0 n) 16 r
      unfolding place_from
      end_second z h =
          let left : n - 2 * i ≡ 1 = omega arith in
          elsewhere (place_from s 0 n) 16 h (ap (end_of second_end) (sym (clause_is (Ok c) g)) ∙ (rw left at same)) (omega (arith, within))

    -- a clause that is refused has the ends of the blank version
    module _ (y : Refusal) (v : Version) (g : x.clause ≡ Err y) (h : v ≡ no_version) where
      pub refused_first : n % 2 ≡ 0 → EndIs (place_from s 0 n) 16 (end_at Before v)
      unfolding place_from
      refused_first z =
          let left : n - 2 * i ≡ 0 = omega arith in
          elsewhere (place_from s 0 n) 16 (blank_before h) (ap (end_of first_end) (sym (clause_is (Err y) g)) ∙ (rw left at same)) (omega arith)

      pub refused_second : (n % 2 ≡ 0 → ⊥) → EndIs (place_from s 0 n) 16 (end_at After v)
      unfolding place_from
      refused_second z =
          let left : n - 2 * i ≡ 1 = omega arith in
          elsewhere (place_from s 0 n) 16 (blank_after h) (ap (end_of second_end) (sym (clause_is (Err y) g)) ∙ (rw left at same)) (omega arith)

module _ (s : List ℕ) (n : ℕ) (r : End) where
  pub number_bottom : n ≡ 0 → r ≡ bottom → EndIs (place_number s n) 16 r
  unfolding place_number
  number_bottom z e = rw z (made_bottom 16 r e)

  pub number_topmost : n ≡ 1 → r ≡ topmost → EndIs (place_number s n) 16 r
  unfolding place_number
  number_topmost z e = rw z (made_topmost 16 r e)

  pub number_clause : (n ≡ 0 → ⊥) → (n ≡ 1 → ⊥) → EndIs (place_from s 0 (n - 2)) 16 r → EndIs (place_number s n) 16 r
  unfolding place_number
  number_clause z o h = let two : n ≡ suc (suc (n - 2)) = omega arith in rw two h
