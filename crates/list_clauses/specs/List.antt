-- Lists of clauses: refusals 8 and 17, and the first clause's that is refused.
use Rattle.answers.specs.declared.Refusal.{Refusal}
use Rattle.std.specs.Prelude.{cond, List, [], ◌∷◌, ℕ, zero, suc, eqb, ltb, length, Result, Ok, Err}
use Rattle.answers.specs.Refusal.{refusal}
use Rattle.chars.specs.Class.{blank, between, front}
use Rattle.version_reading.specs.Reading.{longest}
use Rattle.list_clauses.specs.declared.clause.Clause.{Clause}
use Rattle.list_clauses.specs.declared.step.Part.{Part}
use Rattle.list_clauses.specs.declared.step.Step.{Step}
use Rattle.list_clauses.specs.Step.{step_at}

-- what a list says: its clauses in their order, or a refusal
pub data Listing : Type 0 where
  refused : ℕ → ℕ → Listing
  clauses : List Clause → Listing

-- a clause, and what comes after it
abbrev pub followed : Clause → Listing → Listing
followed c (refused n p) = refused n p
followed c (clauses cs) = clauses (c ∷ cs)

-- a clause at its part of the list, and what is said from the next place on
abbrev pub listing_of : (ℕ → Listing) → Part → Result Clause Refusal → Listing
listing_of more part (Ok c) = cond part.last (clauses (c ∷ [])) (followed c (more part.next))
listing_of more part (Err x) = refused x.number x.place

abbrev pub listing : (ℕ → Listing) → Step → Listing
listing more step = listing_of more step.part step.clause

-- the clauses from a place on, with room for that many
unfoldable pub clauses_from : ℕ → List ℕ → ℕ → Listing
clauses_from zero s start = refused 17 start
clauses_from (suc room) s start = listing (clauses_from room s) (step_at s start)

-- a list of blanks only, or of no bytes, has no clause
unfoldable pub list_of : List ℕ → Listing
list_of s =
    cond (ltb longest (length s)) (refused 8 longest)
    (cond (eqb (front (between blank blank) s) (length s)) (clauses []) (clauses_from 16 s 0))

-- how many clauses there are
abbrev pub count_of : Listing → Result ℕ Refusal
count_of (refused number place) = Err (refusal number place)
count_of (clauses cs) = Ok (length cs)

unfoldable pub checked : List ℕ → Result ℕ Refusal
checked s = count_of (list_of s)
