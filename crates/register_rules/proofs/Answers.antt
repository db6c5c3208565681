-- Each answer of the register is right in its case, and every answer has its case: rule after rule, each at its first broken index.
-- Assumes nothing.
use Rattle.answers.specs.declared.RefusedInput.TheVariants.{First, Second}
use Rattle.answers.specs.declared.RefusedInput.{RefusedInput}
use Rattle.std.specs.Prelude.{Result, Ok, Err}
use mathlib.Core.Path.{◌≡◌, refl, ◌∙◌, ap}
use mathlib.Core.List.{List}
use Prim.Native.Nat.{ℕ, ◌≤◌, ◌<◌}
use native.Mathlib.Omega.{arith}
use lib.Dec.{ltb}
use lib.ListN.{length}
use borrow.Author.Tests.{ltb-true, ltb-false, lt-ltb, le-ltb, ne_eqb}
use Rattle.version_roundtrip.proofs.ReadPlaces.{by_cond}
use Rattle.answers.specs.declared.Refusal.{Refusal}
use Rattle.answers.specs.Refusal.{refusal}
use Rattle.version_reading.specs.declared.text.Verdict.{Verdict}
use Rattle.version_reading.specs.declared.text.Verdict.TheVariants.{Accepted, Refused}
use Rattle.version_reading.specs.Reading.{version_of}
use Rattle.register_entries.specs.declared.entry.Entry.{Entry}
use Rattle.register_rules.specs.declared.lowest.Lowest.{Lowest}
use Rattle.register_rules.specs.declared.lowest.Lowest.TheVariants.{Nothing, One, Two}
use Rattle.register_rules.specs.Guilt.{Zero, Taken, Outside, guilt_by, table_guilt, first_from}
use Rattle.register_rules.specs.Lowest.{lowest_from}
use Rattle.register_rules.specs.Fit.{fitting, unless, answered, fit_of}
use Rattle.register_rules.specs.Cases.{id_at, end_at, table_at, NoZero, Differ, Within, WellFormed, Sound, Fault, Accepts, Due}
use Rattle.register_rules.proofs.Breaking.{
  Ruled,
  Repeats,
  Refusing,
  Read,
  FirstIs,
  zero_ruled,
  zero_number,
  taken_ruled,
  taken_number,
  outside_ruled,
  outside_number,
  table_ruled,
  table_number,
  read_cases,
  ranges_not_refused,
  first_is,
}
use Rattle.register_rules.proofs.TwoLowest.{Right, one_right, lowest_right, right_none, one_is_right, right_one, two_are_right, right_two}

-- a rule over n entries, with what is said where all keep it
module _ (P : ℕ → Type 0) (g : ℕ → ℕ) (n : ℕ) (ruled : (i : ℕ) → i < n → Ruled (P i) (g i)) (otherwise : Result Lowest RefusedInput) where
  by_rule_as : (C : Result Lowest RefusedInput → Type 0) (x : Refusal) → FirstIs P g n x → (((j : ℕ) → j < n → P j → ⊥) → C otherwise) →
      ((i : ℕ) → i < n → P i → ((j : ℕ) → j < i → P j → ⊥) → C (Err (First (refusal (g i) i)))) → C (unless x otherwise)
  by_rule_as C x (FirstIs.none all) f h = f all
  by_rule_as C x (FirstIs.first i inside p some before) f h = rw (ne_eqb (g i) 0 some) (h i inside p before)

  -- to show something of the answer, show it where all keep the rule, and where entry i is the first that breaks it
  by_rule : (C : Result Lowest RefusedInput → Type 0) → (((j : ℕ) → j < n → P j → ⊥) → C otherwise) →
      ((i : ℕ) → i < n → P i → ((j : ℕ) → j < i → P j → ⊥) → C (Err (First (refusal (g i) i)))) → C (unless (first_from g n 0) otherwise)
  by_rule C f h = by_rule_as C (first_from g n 0) (first_is P g n ruled) f h

  passed : ((j : ℕ) → j < n → P j → ⊥) → unless (first_from g n 0) otherwise ≡ otherwise
  passed all = by_rule (λ r. r ≡ otherwise) (λ h. refl) (λ i inside p before. absurd (all i inside p))

  stopped : (i : ℕ) → i < n → P i → ((j : ℕ) → j < i → P j → ⊥) → unless (first_from g n 0) otherwise ≡ Err (First (refusal (g i) i))
  stopped i inside p before =
      by_rule (λ r. r ≡ Err (First (refusal (g i) i))) (λ h. absurd (h i inside p)) (λ k there q none.
      let low : k < i → ⊥ = λ l. before k l q in
      let high : i < k → ⊥ = λ l. none i l p in
      let same : k ≡ i = omega arith in
      ap (λ (m : ℕ). Err (First (refusal (g m) m))) same)

-- the rules' own words
unrepeated : (es : List Entry) (n : ℕ) → ((i : ℕ) → i < n → Repeats es i → ⊥) → Differ es n
unrepeated es n f j i low high e = f i high (j, low, e)

not_repeated : (es : List Entry) (n : ℕ) → Differ es n → (i : ℕ) → i < n → Repeats es i → ⊥
not_repeated es n differ i high r = differ r.0 i r.1 high r.2

pub not_outside : (es : List Entry) (buffer : List ℕ) (n : ℕ) → Within es buffer n → (i : ℕ) → i < n → length buffer < end_at es i → ⊥
not_outside es buffer n within i high h = omega (arith, within i high)

inside_all : (es : List Entry) (buffer : List ℕ) (n : ℕ) → ((i : ℕ) → i < n → length buffer < end_at es i → ⊥) → Within es buffer n
inside_all es buffer n f i high = let h : length buffer < end_at es i → ⊥ = f i high in omega arith

pub not_refusing : (es : List Entry) (buffer : List ℕ) (n : ℕ) → WellFormed es buffer n → (i : ℕ) → i < n → Refusing (table_at es buffer i) → ⊥
not_refusing es buffer n well i high r = ranges_not_refused (table_at es buffer i) (well i high).0 (well i high).1 r

well_formed_all : (es : List Entry) (buffer : List ℕ) (n : ℕ) → ((i : ℕ) → i < n → Refusing (table_at es buffer i) → ⊥) → WellFormed es buffer n
well_formed_all es buffer n f i high =
    elim (read_cases (table_at es buffer i)) [
      | Read.refused_as number place e some ↦ absurd (f i high (number, place, e))
      | Read.says T e ↦ (T, e)
    ]

module _ (es : List Entry) (buffer text : List ℕ) where
  -- what is said after each rule
  abbrev last : Result Lowest RefusedInput
  last = answered (version_of text).verdict (lowest_from Nothing (fitting buffer text es))

  abbrev behind_outside : Result Lowest RefusedInput
  behind_outside = unless (first_from (table_guilt buffer es) (length es) 0) last

  abbrev behind_taken : Result Lowest RefusedInput
  behind_taken = unless (first_from (guilt_by Outside buffer es) (length es) 0) behind_outside

  abbrev behind_zero : Result Lowest RefusedInput
  behind_zero = unless (first_from (guilt_by Taken buffer es) (length es) 0) behind_taken

  few_fit : length es ≤ 64 → fit_of es buffer text ≡ unless (first_from (guilt_by Zero buffer es) (length es) 0) behind_zero
  unfolding fit_of
  few_fit few = rw (le-ltb 64 (length es) few)

  -- the rules that are kept, one after the other
  module _ (few : length es ≤ 64) (no_zero : NoZero es (length es)) where
    zero_kept : fit_of es buffer text ≡ behind_zero
    zero_kept = few_fit few ∙ passed (λ i. id_at es i ≡ 0) (guilt_by Zero buffer es) (length es) (λ i h. zero_ruled buffer es i) behind_zero no_zero

    module _ (differ : Differ es (length es)) where
      taken_kept : fit_of es buffer text ≡ behind_taken
      taken_kept =
          zero_kept ∙ passed (Repeats es) (guilt_by Taken buffer es) (length es) (taken_ruled buffer es) behind_taken (not_repeated es (length es) differ)

      module _ (within : Within es buffer (length es)) where
        outside_kept : fit_of es buffer text ≡ behind_outside
        outside_kept =
            taken_kept ∙
            passed (λ i. length buffer < end_at es i) (guilt_by Outside buffer es) (length es) (λ i h. outside_ruled buffer es i) behind_outside
            (not_outside es buffer (length es) within)

        tables_kept : WellFormed es buffer (length es) → fit_of es buffer text ≡ last
        tables_kept well =
            outside_kept ∙
            passed (λ i. Refusing (table_at es buffer i)) (table_guilt buffer es) (length es) (λ i h. table_ruled buffer es i) last
            (not_refusing es buffer (length es) well)

  -- of a sound register the version's verdict is left, and the two lowest
  pub sound_fit : Sound es buffer → fit_of es buffer text ≡ answered (version_of text).verdict (lowest_from Nothing (fitting buffer text es))
  sound_fit s = tables_kept s.few s.no_zero s.differ s.within s.well_formed

  -- a register that has a row is refused with its number and place
  pub refused_in_its_case : (n p : ℕ) → Fault es buffer n p → fit_of es buffer text ≡ Err (First (refusal n p))
  unfolding fit_of
  refused_in_its_case n p (Fault.too_many many) = rw (lt-ltb 64 (length es) many)
  refused_in_its_case n p (Fault.zero i few inside e before) =
      few_fit few ∙
      stopped (λ i. id_at es i ≡ 0) (guilt_by Zero buffer es) (length es) (λ i h. zero_ruled buffer es i) behind_zero i inside e before ∙
      ap (λ (k : ℕ). Err (First (refusal k i))) (zero_number buffer es i e)
  refused_in_its_case n p (Fault.taken i j few no_zero inside low e before) =
      zero_kept few no_zero ∙
      stopped (Repeats es) (guilt_by Taken buffer es) (length es) (taken_ruled buffer es) behind_taken i inside (j, low, e) (not_repeated es i before) ∙
      ap (λ (k : ℕ). Err (First (refusal k i))) (taken_number buffer es i inside (j, low, e))
  refused_in_its_case n p (Fault.outside i few no_zero differ inside h before) =
      taken_kept few no_zero differ ∙
      stopped (λ i. length buffer < end_at es i) (guilt_by Outside buffer es) (length es) (λ i h. outside_ruled buffer es i) behind_outside i inside h
      (not_outside es buffer i before) ∙
      ap (λ (k : ℕ). Err (First (refusal k i))) (outside_number buffer es i h)
  refused_in_its_case n p (Fault.bad_table i number place few no_zero differ within inside e before) =
      outside_kept few no_zero differ within ∙
      stopped (λ i. Refusing (table_at es buffer i)) (table_guilt buffer es) (length es) (λ i h. table_ruled buffer es i) last i inside (number, place, e)
      (not_refusing es buffer i before) ∙
      ap (λ (k : ℕ). Err (First (refusal k i))) (table_number buffer es i number place e)

  -- each answer is right in its case
  pub answer_in_its_case : (r : Result Lowest RefusedInput) → Due es buffer text r → fit_of es buffer text ≡ r
  answer_in_its_case (Err (First x)) (Due.register y f) = refused_in_its_case x.number x.place f
  answer_in_its_case (Err (Second x)) (Due.version y s e) = sound_fit s ∙ rw e
  answer_in_its_case (Ok Nothing) (Due.none s e never) =
      let same = one_right (id_at es) (Accepts es buffer text) _ Nothing (lowest_right es buffer text s.differ) (Right.none never) in
      sound_fit s ∙ rw e (ap Ok same)
  answer_in_its_case (Ok (One id)) (Due.one id' s e o) =
      let same = one_right (id_at es) (Accepts es buffer text) _ (One id) (lowest_right es buffer text s.differ) (one_is_right es buffer text id o) in
      sound_fit s ∙ rw e (ap Ok same)
  answer_in_its_case (Ok (Two a b)) (Due.two a' b' s e t) =
      let same = one_right (id_at es) (Accepts es buffer text) _ (Two a b) (lowest_right es buffer text s.differ) (two_are_right es buffer text a b t) in
      sound_fit s ∙ rw e (ap Ok same)

  -- what is said of a sound register
  lowest_due : Sound es buffer → (version_of text).verdict ≡ Accepted → (l : Lowest) → Right (id_at es) (Accepts es buffer text) l → Due es buffer text (Ok l)
  lowest_due s e Nothing r = Due.none s e (right_none es buffer text r)
  lowest_due s e (One id) r = Due.one id s e (right_one es buffer text id r)
  lowest_due s e (Two a b) r = Due.two a b s e (right_two es buffer text a b r)

  verdict_due : Sound es buffer → (v : Verdict) → (version_of text).verdict ≡ v → Due es buffer text (answered v (lowest_from Nothing (fitting buffer text es)))
  verdict_due s Accepted e = lowest_due s e (lowest_from Nothing (fitting buffer text es)) (lowest_right es buffer text s.differ)
  verdict_due s (Refused x) e = Due.version x s e

  -- and every answer has its case
  pub answered_in_a_case : Due es buffer text (fit_of es buffer text)
  unfolding fit_of
  answered_in_a_case =
      by_cond (Due es buffer text) (ltb 64 (length es)) (λ t. Due.register (refusal 30 64) (Fault.too_many (ltb-true 64 (length es) t)))
      (λ t.
      let few : length es ≤ 64 = ltb-false 64 (length es) t in
      by_rule (λ i. id_at es i ≡ 0) (guilt_by Zero buffer es) (length es) (λ i h. zero_ruled buffer es i) behind_zero (Due es buffer text)
      (λ no_zero.
      by_rule (Repeats es) (guilt_by Taken buffer es) (length es) (taken_ruled buffer es) behind_taken (Due es buffer text)
      (λ unlike.
      let differ : Differ es (length es) = unrepeated es (length es) unlike in
      by_rule (λ i. length buffer < end_at es i) (guilt_by Outside buffer es) (length es) (λ i h. outside_ruled buffer es i) behind_outside (Due es buffer text)
      (λ none_out.
      let within : Within es buffer (length es) = inside_all es buffer (length es) none_out in
      by_rule (λ i. Refusing (table_at es buffer i)) (table_guilt buffer es) (length es) (λ i h. table_ruled buffer es i) last (Due es buffer text)
      (λ none-bad.
      verdict_due
      (record { few = few; no_zero = no_zero; differ = differ; within = within; well_formed = well_formed_all es buffer (length es) none-bad })
      (version_of text).verdict refl)
      (λ i inside b before.
      rw (table_number buffer es i b.0 b.1 b.2)
      (Due.register (refusal b.0 i)
      (Fault.bad_table i b.0 b.1 few no_zero differ within inside b.2 (well_formed_all es buffer i before)))))
      (λ i inside h before.
      rw (outside_number buffer es i h)
      (Due.register (refusal 33 i) (Fault.outside i few no_zero differ inside h (inside_all es buffer i before)))))
      (λ i inside r before.
      rw (taken_number buffer es i inside r)
      (Due.register (refusal 32 i) (Fault.taken i r.0 few no_zero inside r.1 r.2 (unrepeated es i before)))))
      (λ i inside e before. rw (zero_number buffer es i e) (Due.register (refusal 31 i) (Fault.zero i few inside e before))))
