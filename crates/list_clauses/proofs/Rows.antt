-- A list is refused with a number and a place exactly in the case of that row: in that case it is, and whatever it is refused with has a row.
-- Assumes nothing.
use Rattle.answers.specs.declared.Refusal.{Refusal}
use Rattle.answers.specs.Refusal.{refusal}
use Rattle.std.specs.Prelude.{Result, Ok, Err}
use mathlib.Core.Path.{◌≡◌, refl, sym, ◌∙◌, ap}
use mathlib.Core.Bool.{false}
use mathlib.Core.List.{List}
use Prim.Native.Nat.{ℕ, zero, suc, ◌+◌, ◌-◌, ◌≤◌, ◌<◌}
use native.Mathlib.Decide.{dec_lt, ℕ_discrete}
use native.Mathlib.Omega.{arith}
use lib.ListN.{length, drop, length-take, length-drop}
use borrow.Author.Tests.{lt-leb, leb-false}
use Rattle.chars.specs.Class.{blank, between, front}
use Rattle.chars.proofs.Cases.{no_lt}
use Rattle.version.proofs.Answers.{flag_cases, holds, fails}
use Rattle.version_reading.specs.Reading.{longest}
use Rattle.list_clauses.specs.declared.clause.Clause.{Clause}
use Rattle.list_clauses.specs.declared.step.Step.{Step}
use Rattle.list_clauses.specs.Clause.{refused_clause, clause_of}
use Rattle.list_clauses.specs.Step.{comma_after, part_start, part_end, part_bytes, part_at, clause_in, step_at}
use Rattle.list_clauses.specs.List.{Listing, refused, clauses, followed, clauses_from, list_of}
use Rattle.list_clauses.specs.Refusals.{FaultAt, Faultless, Begun, Row}
use Rattle.list_clauses.proofs.Walks.{was_read, was_refused, outcome, one_refusal, not_both, step_refused, step_last, step_more}
use Rattle.list_clauses.proofs.Lists.{listed_long, listed_blank, listed_some}
use Rattle.list_clauses.proofs.Faults.{fault_refused, fault_of_refusal, read_faultless, faultless_read}

followed_refused : (c : Clause) (l : Listing) {n p : ℕ} → followed c l ≡ refused n p → l ≡ refused n p
followed_refused c (refused m q) e = e
followed_refused c (clauses cs) e = absurd (not_both e)

-- the step after a clause that is not the last
module _ (s : List ℕ) (start : ℕ) where
  goes_on : comma_after s start < length s → ((step_at s start).part.last ≡ false) × ((step_at s start).part.next ≡ comma_after s start + 1)
  unfolding step_at part_at
  goes_on h = let other = lt-leb (length s) (comma_after s start) h in (other, rw other)

  not_last : (step_at s start).part.last ≡ false → comma_after s start < length s
  unfolding step_at part_at
  not_last e = leb-false (length s) (comma_after s start) e

module _ (s : List ℕ) (short : length s ≤ longest) where
  -- the step there, and its clause
  abbrev there : ℕ → Result Clause Refusal
  there start = (step_at s start).clause

  is_read : (start : ℕ) → there start ≡ clause_of (part_bytes s start) start (part_start s start)
  unfolding step_at clause_in
  is_read start = sym (no_lt longest (length s) _ short refl)

  pub part_short : (start : ℕ) → length (part_bytes s start) ≤ longest
  part_short start =
      omega (arith, length-take (part_end s start - part_start s start) (drop (part_start s start) s), length-drop (part_start s start) s)

  there_read : (start : ℕ) → Faultless s start → (c : Clause) × (there start ≡ Ok c)
  there_read start none =
      let read = faultless_read (part_bytes s start) start (part_start s start) (part_short start) none in
      (read.0, is_read start ∙ read.1)

  there_faultless : (start : ℕ) (c : Clause) → there start ≡ Ok c → Faultless s start
  there_faultless start c e = read_faultless (part_bytes s start) start (part_start s start) (part_short start) c (sym (is_read start) ∙ e)

  there_refused : {start n p : ℕ} → FaultAt s start n p → there start ≡ refused_clause n p
  there_refused {start = start} f = is_read start ∙ fault_refused (part_bytes s start) start (part_start s start) (part_short start) f

  there_fault : (start : ℕ) (x : Refusal) → there start ≡ Err x → FaultAt s start x.number x.place
  there_fault start x e = fault_of_refusal (part_bytes s start) start (part_start s start) (part_short start) x (sym (is_read start) ∙ e)

  -- where clauses without a fault were read, a refusal from there on is the list's
  so_far : {count start : ℕ} (n p : ℕ) → Begun s count start → count ≤ 16 → clauses_from (16 - count) s start ≡ refused n p → list_of s ≡ refused n p
  so_far n p (Begun.first some) few e = sym (listed_some s _ short refl some) ∙ e
  so_far n p (Begun.after_comma count start b none more) few e =
      let one : 16 - count ≡ suc (16 - suc count) = omega arith in
      let on = goes_on s start more in
      let read = there_read start none in
      let step = step_more s start (16 - suc count) (step_at s start) refl read.0 read.1 on.0 in
      so_far n p b (omega arith) (rw one (step ∙ rw on.1 (ap (followed read.0) e)))

  clause_refused : {count start : ℕ} (n p : ℕ) → Begun s count start → count < 16 → FaultAt s start n p → list_of s ≡ refused n p
  clause_refused {count = count} {start = start} n p b few f =
      let one : 16 - count ≡ suc (15 - count) = omega arith in
      so_far n p b (omega arith) (rw one (step_refused s start (15 - count) (step_at s start) refl (refusal n p) (there_refused f)))

  full_refused : (start : ℕ) → Begun s 16 start → list_of s ≡ refused 17 start
  unfolding clauses_from
  full_refused start b = so_far 17 start b (omega arith) refl

  -- and a refusal from there on has a row
  row_from : (room count start n p : ℕ) → count + room ≡ 16 → Begun s count start → clauses_from room s start ≡ refused n p → Row s n p
  unfolding clauses_from
  row_from zero count start n p size b e =
      let full : count ≡ 16 = omega arith in
      let same = one_refusal e in
      rw (← same.0, ← same.1) (Row.too_many start short (rw full at b))
  row_from (suc room) count start n p size b e =
      let x : Step = step_at s start in
      elim (outcome x.clause) [
        | was_refused y some ↦
            let same = one_refusal (sym (step_refused s start room x refl y some) ∙ e) in
            rw (← same.0, ← same.1) (Row.in_clause count start _ _ short b (omega arith) (there_fault start y some))
        | was_read c read ↦
            elim (flag_cases x.part.last) [
              | holds last ↦ absurd (not_both (sym (step_last s start room x refl c read last) ∙ e))
              | fails more ↦
                  let comma = not_last s start more in
                  let rest = followed_refused c (clauses_from room s x.part.next) (sym (step_more s start room x refl c read more) ∙ e) in
                  row_from room (suc count) (comma_after s start + 1) n p (omega arith) (Begun.after_comma count start b (there_faultless start c read) comma)
                  (rw (goes_on s start comma).1 at rest)
            ]
      ]

pub refused_in_its_case : (s : List ℕ) (n p : ℕ) → Row s n p → list_of s ≡ refused n p
refused_in_its_case s n p (Row.too_long h) = sym (listed_long s h)
refused_in_its_case s n p (Row.too_many start short b) = full_refused s short start b
refused_in_its_case s n p (Row.in_clause count start m q short b few f) = clause_refused s short n p b few f

pub row_of_refusal : (s : List ℕ) (n p : ℕ) → list_of s ≡ refused n p → Row s n p
row_of_refusal s n p e =
    elim (dec_lt longest (length s)) [
      | yes long ↦ let same = one_refusal (listed_long s long ∙ e) in rw (← same.0, ← same.1) (Row.too_long long)
      | no within ↦
          let short : length s ≤ longest = omega arith in
          elim (ℕ_discrete (front (between blank blank) s) (length s)) [
            | yes none ↦ absurd (not_both (listed_blank s _ short refl none ∙ e))
            | no some ↦ row_from s short 16 0 0 n p refl (Begun.first some) (listed_some s _ short refl some ∙ e)
          ]
    ]
