-- The ways of the functions that say what a list accepts.
-- Assumes nothing.
use Rattle.answers.specs.declared.RefusedInput.TheVariants.{First, Second}
use Rattle.answers.specs.declared.RefusedInput.{RefusedInput}
use Rattle.std.specs.Prelude.{Result, Ok, Err, MatchResult, IsErrAnd}
use mathlib.Core.Path.{◌≡◌, refl, sym, ◌∙◌, ap}
use mathlib.Core.Bool.{Bool, true, false, ◌&&◌}
use mathlib.Core.List.{List, [], ◌∷◌, ◌++◌}
use Prim.Native.Nat.{ℕ, ◌+◌, ◌≤◌, ◌<◌}
use native.Mathlib.Omega.{arith}
use lib.ListN.{length}
use Rattle.answers.specs.declared.Refusal.{Refusal}
use Rattle.answers.specs.Refusal.{refusal}
use Rattle.answers.specs.YesNo.{yes_or_no}
use Rattle.chars.specs.Class.{blank, between, front}
use Rattle.version_parts.specs.declared.fields.Version.{Version}
use Rattle.version_reading.specs.declared.text.VersionReading.{VersionReading}
use Rattle.version_reading.specs.declared.text.Verdict.{Verdict}
use Rattle.version_reading.specs.declared.text.Verdict.TheVariants.{Accepted, Refused}
use Rattle.version_reading.specs.Reading.{version_of}
use Rattle.version_reading.specs.Value.{Value, value_of}
use Rattle.list_clauses.specs.declared.clause.Clause.{Clause}
use Rattle.list_clauses.specs.declared.step.Step.{Step}
use Rattle.list_clauses.specs.Step.{step_at, first_clauses}
use Rattle.list_clauses.specs.List.{Listing, refused, clauses, clauses_from, list_of}
use Rattle.list_accepting.specs.Accept.{clause_accepts, all_accept, told_by, judged_by, accepted}
use Rattle.list_clauses.proofs.Walks.{Walked, walk_full, walk_refused, walk_last, clauses_more}
use Rattle.list_clauses.proofs.Lists.{listed_long, listed_blank, listed_some}
use Rattle.list_accepting.proofs.Holding.{blind_all}

and_true : (a : Bool) → a && true ≡ a
and_true true = refl
and_true false = refl

and_then : (a b c : Bool) → a && (b && c) ≡ (a && b) && c
and_then true b c = refl
and_then false b c = refl

-- one clause after others
accept_snoc : (cs : List Clause) (c : Clause) (w : Value) → all_accept (cs ++ (c ∷ [])) w ≡ all_accept cs w && clause_accepts c w
accept_snoc [] c w = and_true (clause_accepts c w)
accept_snoc (d ∷ cs) c w = rw (accept_snoc cs c w) (and_then (clause_accepts d w) (all_accept cs w) (clause_accepts c w))

-- the ways of `accept_clauses`
pub accept_none : (s : List ℕ) (w : Value) → true ≡ all_accept (first_clauses s 0) w
unfolding first_clauses
accept_none s w = refl

module _ (s : List ℕ) (w : Value) (count start : ℕ) (W : Walked s count start) where
  pub accept_full : 16 ≤ count → Err (refusal 17 start) ≡ told_by (clauses_from 16 s 0) w
  accept_full f = ap (λ l. told_by l w) (walk_full s count start W f)

  module _ (x : Step) (e : x ≡ step_at s start) (few : count < 16) where
    pub accept_refused : (y : Refusal) → x.clause ≡ Err y → Err y ≡ told_by (clauses_from 16 s 0) w
    accept_refused y g = ap (λ l. told_by l w) (walk_refused s count start W x e few y g)

    -- b is what the clauses so far say with this one
    module _ (c : Clause) (g : x.clause ≡ Ok c) (before b : Bool) (h : before ≡ all_accept (first_clauses s count) w)
        (k : b ≡ before && clause_accepts c w) where
      pub accept_more : b ≡ all_accept (first_clauses s (count + 1)) w
      accept_more = rw (← clauses_more s count start W x e few c g) (k ∙ rw h (sym (accept_snoc (first_clauses s count) c w)))

      pub accept_last : x.part.last ≡ true → Ok b ≡ told_by (clauses_from 16 s 0) w
      accept_last l = ap Ok accept_more ∙ ap (λ y. told_by y w) (walk_last s count start W x e few c g l)

-- the ways of `accept_version`
pub accept_long : (s : List ℕ) (w : Value) → 1024 < length s → Err (refusal 8 1024) ≡ told_by (list_of s) w
accept_long s w h = ap (λ l. told_by l w) (listed_long s h)

module _ (s : List ℕ) (w : Value) (n : ℕ) (short : length s ≤ 1024) (e : n ≡ front (between blank blank) s) where
  pub accept_blank : n ≡ length s → Ok true ≡ told_by (list_of s) w
  accept_blank f = ap (λ l. told_by l w) (listed_blank s n short e f)

  pub accept_some : (q : Result Bool Refusal) → (n ≡ length s → ⊥) → q ≡ told_by (clauses_from 16 s 0) w → q ≡ told_by (list_of s) w
  accept_some q f g = g ∙ ap (λ l. told_by l w) (listed_some s n short e f)

-- a refusal is said to be of the first input
abbrev first_named : Result Bool Refusal → Result Bool RefusedInput
first_named (Ok held) = Ok held
first_named (Err x) = Err (First x)

abbrev pub Named : Result Bool Refusal → Result Bool RefusedInput → Type 0
Named q r = MatchResult q (λ held. r ≡ Ok held) (λ x. IsErrAnd r (λ y. y ≡ First x))

as_named : (q : Result Bool Refusal) (r : Result Bool RefusedInput) → Named q r → r ≡ first_named q
as_named (Ok held) r h = h
as_named (Err x) (Ok held) h = absurd h
as_named (Err x) (Err y) h = ap Err h

-- yes or no names no input
pub yes_or_no_other : (b : Bool) (x : RefusedInput) → yes_or_no b ≡ Err x → ⊥
yes_or_no_other true x e = let impossible : ◌≡◌ {A = ℕ} 0 1 = cc in omega arith
yes_or_no_other false x e = let impossible : ◌≡◌ {A = ℕ} 0 1 = cc in omega arith

says : (b : Bool) → Ok b ≡ yes_or_no b
says true = refl
says false = refl

-- a refused list is named whatever the version is, and of another a refused version
list_first : (l : Listing) (v : Verdict) (w w' : Value) (x : RefusedInput) → first_named (told_by l w) ≡ Err x → Err x ≡ judged_by l v w'
list_first (refused number place) v w w' x e = sym e
list_first (clauses cs) v w w' x e = cc

version_next : (l : Listing) (w w' : Value) (x : Refusal) (held : Bool) → first_named (told_by l w) ≡ Ok held → Err (Second x) ≡ judged_by l (Refused x) w'
version_next (refused number place) w w' x held e = cc
version_next (clauses cs) w w' x held e = refl

-- the label of a version that was read is nothing to a list
list_named : (l : Listing) (t : List ℕ) (w : Version) → first_named (told_by l (value_of [] w)) ≡ judged_by l Accepted (value_of t w)
list_named (refused number place) t w = refl
list_named (clauses cs) t w = says _ ∙ ap yes_or_no (blind_all t w cs)

-- r is the list's own answer q, said of the first input
module _ (s t : List ℕ) (read : VersionReading) (q : Result Bool Refusal) (r : Result Bool RefusedInput) (d : read ≡ version_of t)
    (e : q ≡ told_by (list_of s) (value_of [] read.version)) (n : Named q r) where
  pub list_refused : (x : RefusedInput) → r ≡ Err x → Err x ≡ accepted s t
  unfolding accepted
  list_refused x f = list_first (list_of s) _ (value_of [] read.version) _ x (ap first_named (sym e) ∙ sym (as_named q r n) ∙ f)

  module _ (held : Bool) (f : r ≡ Ok held) where
    told : first_named (told_by (list_of s) (value_of [] read.version)) ≡ Ok held
    told = ap first_named (sym e) ∙ sym (as_named q r n) ∙ f

    pub version_refused : (x : Refusal) → read.verdict ≡ Refused x → Err (Second x) ≡ accepted s t
    unfolding accepted
    version_refused x g = rw (← d, g) (version_next (list_of s) (value_of [] read.version) _ x held told)

    pub both_accepted : read.verdict ≡ Accepted → Ok held ≡ accepted s t
    unfolding accepted
    both_accepted g = rw (← d, g) (sym told ∙ list_named (list_of s) t read.version)

  pub read_accepted : read.verdict ≡ Accepted → r ≡ accepted s t
  unfolding accepted
  read_accepted g = rw (← d, g) (as_named q r n ∙ ap first_named e ∙ list_named (list_of s) t read.version)
