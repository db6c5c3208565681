-- Each answer of the register exactly in its case, and in no other: its refusals, the version's, no entry, one, and two.
-- Assumes nothing.
use Rattle.answers.specs.declared.RefusedInput.TheVariants.{First, Second}
use Rattle.answers.specs.declared.RefusedInput.{RefusedInput}
use Rattle.std.specs.Prelude.{Result, Ok, Err}
use mathlib.Core.Path.{◌≡◌, sym, ◌∙◌, ap, subst}
use mathlib.Core.Logic.{◌↔◌, ◌⊎◌, inl, inr}
use mathlib.Core.List.{List, []}
use Prim.Native.Nat.{ℕ, ◌≤◌, ◌<◌}
use native.Mathlib.Omega.{arith}
use lib.ListN.{length}
use Rattle.answers.specs.declared.Refusal.{Refusal}
use Rattle.answers.specs.Refusal.{refusal}
use Rattle.version_reading.specs.declared.text.Verdict.TheVariants.{Accepted, Refused}
use Rattle.version_reading.specs.Reading.{version_of}
use Rattle.table_reading.specs.Table.{refused, table_of}
use Rattle.table_reading.proofs.Tables.{only_18}
use Rattle.register_entries.specs.declared.entry.Entry.{Entry}
use Rattle.register_rules.specs.declared.lowest.Lowest.{Lowest}
use Rattle.register_rules.specs.declared.lowest.Lowest.TheVariants.{Nothing, One, Two}
use Rattle.register_rules.specs.Fit.{fit_of}
use Rattle.register_rules.specs.Cases.{table_at, Sound, Fault, NoneAccepts, OneAccepts, TwoAccept, Due}
use Rattle.register_rules.proofs.Answers.{not_outside, not_refusing, refused_in_its_case, answer_in_its_case, answered_in_a_case}

module _ (es : List Entry) (buffer text : List ℕ) where
  -- each answer is one of five, with its case
  pub every_answer : Due es buffer text (fit_of es buffer text)
  every_answer = answered_in_a_case es buffer text

  of_register : {x : Refusal} → Due es buffer text (Err (First x)) → Fault es buffer x.number x.place
  of_register (Due.register x f) = f

  of_version : {x : Refusal} → Due es buffer text (Err (Second x)) → Sound es buffer × ((version_of text).verdict ≡ Refused x)
  of_version (Due.version x s e) = (s, e)

  of_none : Due es buffer text (Ok Nothing) → Sound es buffer × ((version_of text).verdict ≡ Accepted) × NoneAccepts es buffer text
  of_none (Due.none s e never) = (s, e, never)

  of_one : {id : ℕ} → Due es buffer text (Ok (One id)) → Sound es buffer × ((version_of text).verdict ≡ Accepted) × OneAccepts es buffer text id
  of_one (Due.one id s e o) = (s, e, o)

  of_two : {a b : ℕ} → Due es buffer text (Ok (Two a b)) → Sound es buffer × ((version_of text).verdict ≡ Accepted) × TwoAccept es buffer text a b
  of_two (Due.two a b s e t) = (s, e, t)

  due : {r : Result Lowest RefusedInput} → fit_of es buffer text ≡ r → Due es buffer text r
  due e = subst (Due es buffer text) e every_answer

  -- the register's refusals, each in its row's case
  pub register_refused_exactly : (x : Refusal) → (fit_of es buffer text ≡ Err (First x)) ↔ Fault es buffer x.number x.place
  register_refused_exactly x = (λ e. of_register (due e), refused_in_its_case es buffer text x.number x.place)

  -- the version's, of a sound register
  pub version_refused_exactly : (x : Refusal) → (fit_of es buffer text ≡ Err (Second x)) ↔ (Sound es buffer × ((version_of text).verdict ≡ Refused x))
  version_refused_exactly x = (λ e. of_version (due e), λ c. answer_in_its_case es buffer text (Err (Second x)) (Due.version x c.0 c.1))

  -- of a sound register and an accepted version: no entry accepts it
  pub none_exactly : (fit_of es buffer text ≡ Ok Nothing) ↔ (Sound es buffer × ((version_of text).verdict ≡ Accepted) × NoneAccepts es buffer text)
  none_exactly = (λ e. of_none (due e), λ c. answer_in_its_case es buffer text (Ok Nothing) (Due.none c.0 c.1 c.2))

  -- one alone does
  pub one_exactly : (id : ℕ) →
      (fit_of es buffer text ≡ Ok (One id)) ↔ (Sound es buffer × ((version_of text).verdict ≡ Accepted) × OneAccepts es buffer text id)
  one_exactly id = (λ e. of_one (due e), λ c. answer_in_its_case es buffer text (Ok (One id)) (Due.one id c.0 c.1 c.2))

  -- two or more do, and these are the lowest
  pub two_exactly : (a b : ℕ) →
      (fit_of es buffer text ≡ Ok (Two a b)) ↔ (Sound es buffer × ((version_of text).verdict ≡ Accepted) × TwoAccept es buffer text a b)
  two_exactly a b = (λ e. of_two (due e), λ c. answer_in_its_case es buffer text (Ok (Two a b)) (Due.two a b c.0 c.1 c.2))

  -- all of it in one: an answer is the register's exactly if its case is there
  pub fit_exactly : (r : Result Lowest RefusedInput) → (fit_of es buffer text ≡ r) ↔ Due es buffer text r
  fit_exactly r = (due, answer_in_its_case es buffer text r)

  read_as : {lowest : Lowest} → Due es buffer text (Ok lowest) → (version_of text).verdict ≡ Accepted
  read_as (Due.none s e never) = e
  read_as (Due.one id s e o) = e
  read_as (Due.two a b s e t) = e

  -- identifiers are said of a version that was read
  pub by_accepted : (lowest : Lowest) → fit_of es buffer text ≡ Ok lowest → (version_of text).verdict ≡ Accepted
  by_accepted lowest e = read_as (due e)

  -- two answers that meet the statement are the same
  pub one_fit : {r q : Result Lowest RefusedInput} → Due es buffer text r → Due es buffer text q → r ≡ q
  one_fit d c = sym (answer_in_its_case es buffer text _ d) ∙ answer_in_its_case es buffer text _ c

-- the rows themselves, for any text
module _ (es : List Entry) (buffer : List ℕ) where
  same_refusal : {n p m q : ℕ} → ◌≡◌ {A = Result Lowest RefusedInput} (Err (First (refusal n p))) (Err (First (refusal m q))) → refusal n p ≡ refusal m q
  same_refusal e = cc

  -- a register has one row at most
  pub one_fault : {n p m q : ℕ} → Fault es buffer n p → Fault es buffer m q → (n ≡ m) × (p ≡ q)
  one_fault f g =
      let same = same_refusal (sym (refused_in_its_case es buffer [] _ _ f) ∙ refused_in_its_case es buffer [] _ _ g) in
      (ap (λ (x : Refusal). x.number) same, ap (λ (x : Refusal). x.place) same)

  sound_or_fault_as : (r : Result Lowest RefusedInput) → Due es buffer [] r → Sound es buffer ⊎ ((n : ℕ) × (p : ℕ) × Fault es buffer n p)
  sound_or_fault_as (Err (First x)) (Due.register y f) = inr (x.number, x.place, f)
  sound_or_fault_as (Err (Second x)) (Due.version y s e) = inl s
  sound_or_fault_as (Ok Nothing) (Due.none s e never) = inl s
  sound_or_fault_as (Ok (One id)) (Due.one id' s e o) = inl s
  sound_or_fault_as (Ok (Two a b)) (Due.two a' b' s e t) = inl s

  -- it is sound, or has a row
  pub sound_or_fault : Sound es buffer ⊎ ((n : ℕ) × (p : ℕ) × Fault es buffer n p)
  sound_or_fault = sound_or_fault_as (fit_of es buffer []) (every_answer es buffer [])

  not_both : Sound es buffer → (n p : ℕ) → Fault es buffer n p → ⊥
  not_both s n p (Fault.too_many many) = omega (arith, s.few)
  not_both s n p (Fault.zero i few inside e before) = s.no_zero i inside e
  not_both s n p (Fault.taken i j few no_zero inside low e before) = s.differ j i low inside e
  not_both s n p (Fault.outside i few no_zero differ inside h before) = not_outside es buffer (length es) s.within i inside h
  not_both s n p (Fault.bad_table i number place few no_zero differ within inside e before) =
      not_refusing es buffer (length es) s.well_formed i inside (number, place, e)

  without_fault : ((n p : ℕ) → Fault es buffer n p → ⊥) → Sound es buffer ⊎ ((n : ℕ) × (p : ℕ) × Fault es buffer n p) → Sound es buffer
  without_fault none (inl s) = s
  without_fault none (inr f) = absurd (none f.0 f.1 f.2)

  -- versions that are refused alike have one answer: the register's refusal, or theirs
  pub refused_alike : (v w : List ℕ) (x : Refusal) → (version_of v).verdict ≡ Refused x → (version_of w).verdict ≡ Refused x → fit_of es buffer v ≡ fit_of es buffer w
  refused_alike v w x e f =
      elim sound_or_fault [
        | inl sound ↦ (version_refused_exactly es buffer v x).1 (sound, e) ∙ sym ((version_refused_exactly es buffer w x).1 (sound, f))
        | inr fault ↦ refused_in_its_case es buffer v _ _ fault.2 ∙ sym (refused_in_its_case es buffer w _ _ fault.2)
      ]

  -- and never both
  pub sound_exactly : Sound es buffer ↔ ((n p : ℕ) → Fault es buffer n p → ⊥)
  sound_exactly = (not_both, λ none. without_fault none sound_or_fault)

  -- the place is the index of an entry, and one of the first 65
  pub fault_place : {n p : ℕ} → Fault es buffer n p → (p < length es) × (p ≤ 64)
  fault_place (Fault.too_many many) = (many, omega arith)
  fault_place (Fault.zero i few inside e before) = (inside, omega arith)
  fault_place (Fault.taken i j few no_zero inside low e before) = (inside, omega arith)
  fault_place (Fault.outside i few no_zero differ inside h before) = (inside, omega arith)
  fault_place (Fault.bad_table i number place few no_zero differ within inside e before) = (inside, omega arith)

  -- the number of a table that is refused
  pub bad_is_18 : (i number place : ℕ) → table_of (table_at es buffer i) ≡ refused number place → number ≡ 18
  bad_is_18 i number place e = (only_18 (table_at es buffer i) number place e).0
