-- The quick way: what it finds is what the rules read, and what it says of a plain version is what they say.
-- Assumes nothing.
use Rattle.answers.specs.declared.RefusedInput.{RefusedInput}
use Rattle.std.specs.Prelude.{Option, Some, None, Result, Ok, Err}
use mathlib.Core.Path.{◌≡◌, refl, sym, ap, ◌∙◌}
use mathlib.Core.Bool.{Bool, true, false, ◌&&◌}
use mathlib.Core.List.{List}
use Prim.Native.Nat.{ℕ, ◌+◌, ◌-◌, ◌≤◌, ◌<◌}
use native.Mathlib.Omega.{arith}
use lib.ListN.{length, take, drop}
use Rattle.chars.proofs.Cases.{no_lt}
use Rattle.version_reading.specs.declared.text.Verdict.TheVariants.{Accepted}
use Rattle.version_reading.specs.declared.plain.Plain.{Plain}
use Rattle.version_reading.specs.Plain.{FilledPlain, plain_of, PlainRead, whole_version}
use Rattle.version_reading.specs.Reading.{version_of}
use Rattle.version_reading.specs.Value.{Value}
use Rattle.version_reading.proofs.PlainRead.{plain_said, said_filled}
use Rattle.list_clauses.specs.declared.operator.Operator.{Operator}
use Rattle.list_clauses.specs.declared.operator.Operator.TheVariants.{Equal, NotEqual, Compatible, AtMost, AtLeast, Below, Above}
use Rattle.list_clauses.specs.declared.clause.Clause.{Clause}
use Rattle.list_clauses.specs.declared.step.Part.{Part}
use Rattle.list_clauses.specs.declared.step.Step.{Step}
use Rattle.answers.specs.declared.Refusal.{Refusal}
use Rattle.list_clauses.specs.Operator.{operator_of}
use Rattle.list_clauses.specs.Clause.{read_clause, stray_wildcard, too_short_for, judged, pattern_clause, clause_of}
use Rattle.list_clauses.specs.Step.{bytes_in, part_start, part_bytes, part_at, clause_in, step_at, first_clauses}
use Rattle.list_clauses.specs.List.{clauses_from, list_of}
use Rattle.list_accepting.specs.Accept.{holds, clause_accepts, all_accept, told_by, accepted as acceptedBy}
use Rattle.list_accepting.specs.Plain.{plain_value, from_any_start, RightlyFound, verdict_after}
use Rattle.list_clauses.proofs.Clauses.{clause_read}
use Rattle.list_clauses.proofs.Walks.{Walked, walk_more}
use Rattle.list_accepting.proofs.Verdicts.{accept_refused, accept_more, accept_last, Named, read_accepted}

-- a plain version that was read
module _ (s : List ℕ) (r : Option Plain) (v : Plain) (p : PlainRead (plain_of s) r) (x : r ≡ Some v) where
  -- the candidate: q is what the list says of it
  pub plain_candidate : (list : List ℕ) (q : Result Bool Refusal) (a : Result Bool RefusedInput) → q ≡ told_by (list_of list) (plain_value v) →
      Named q a → a ≡ acceptedBy list s
  unfolding version_of
  plain_candidate list q a f n =
      let read : record { verdict = Accepted; version = whole_version v } ≡ version_of s = rw (plain_said false s r v p.is x) in
      read_accepted list s _ q a read f n refl

-- no operator is refused for a wildcard that is not there
none_stray : (operator : Operator) → stray_wildcard operator false ≡ false
none_stray Equal = refl
none_stray NotEqual = refl
none_stray Compatible = refl
none_stray AtMost = refl
none_stray AtLeast = refl
none_stray Below = refl
none_stray Above = refl

-- the ways of `find_pattern` and what calls it
pub pattern_found : (operator : Operator) (s : List ℕ) (r : Option Plain) (v : Plain) (b : Bool) → PlainRead (plain_of s) r → r ≡ Some v →
    b ≡ too_short_for operator v.count → b ≡ false → RightlyFound (from_any_start (pattern_clause operator s)) (Some (operator, v))
unfolding pattern_clause judged
pattern_found operator s r v b p x f g = ((said_filled p x).filled, λ start from. rw (plain_said true s r v p.is x, none_stray operator, ← f, g))

-- what is found of one clause is found of another that is the same wherever it starts
same_clause : (c d : ℕ → ℕ → Result Clause Refusal) (place : ℕ → ℕ) → ((start from : ℕ) → c start from ≡ d start (place from)) → (r : Option (Operator × Plain)) →
    RightlyFound d r → RightlyFound c r
same_clause c d place e None h = tt
same_clause c d place e (Some (operator, v)) h = (h.0, λ start from. e start from ∙ h.1 start (place from))

pub clause_found : (t : List ℕ) (o : Option (Operator × ℕ)) (operator : Operator) (width : ℕ) (r : Option (Operator × Plain)) → (length t ≡ 0 → ⊥) → o ≡ operator_of t →
    o ≡ Some (operator, width) → RightlyFound (from_any_start (pattern_clause operator (take (length t - width) (drop width t)))) r →
    RightlyFound (clause_of t) r
clause_found t o operator width r some f g h =
    same_clause _ _ (λ from. from + width) (λ start from. sym (clause_read t start from o some f _ operator width g refl)) r h

-- the ways of `judge_version`
module _ (s : List ℕ) (start : ℕ) (x : Step) (before : Bool) (w : Value) (e : x ≡ step_at s start) where
  pub version_refused : (y : Refusal) → x.clause ≡ Err y → Err y ≡ verdict_after before (clause_in s start) w
  unfolding step_at
  version_refused y g =
      let there : Err y ≡ clause_in s start = sym g ∙ ap (λ z. z.clause) e in
      rw (← there)

  pub version_judged : (c : Clause) (q : Bool) → x.clause ≡ Ok c → q ≡ before && clause_accepts c w → Ok q ≡ verdict_after before (clause_in s start) w
  unfolding step_at
  version_judged c q g f =
      let there : Ok c ≡ clause_in s start = sym g ∙ ap (λ z. z.clause) e in
      rw (← there, f)

-- the ways of `judge_plain`: r is what the quick way finds in the clause's part
module _ (s bytes : List ℕ) (start : ℕ) (here : Part) (r : Option (Operator × Plain)) (p : here ≡ part_at s start) (b : bytes ≡ bytes_in s here.from here.to)
    (h : RightlyFound (clause_of bytes) r) (operator : Operator) (v : Plain) (e : r ≡ Some (operator, v)) where
  found_here : RightlyFound (clause_of (part_bytes s start)) (Some (operator, v))
  unfolding part_at
  found_here = let there : bytes ≡ part_bytes s start = rw p at b in rw (e, there) at h

  pub found_filled : FilledPlain v
  found_filled = found_here.0

  pub judged_plain : (before q : Bool) (w : Plain) → length s ≤ 1024 → q ≡ before && holds operator false (plain_value v) (plain_value w) →
      Ok q ≡ verdict_after before (clause_in s start) (plain_value w)
  unfolding clause_in
  judged_plain before q w short f =
      let read : clause_in s start ≡ read_clause operator false (whole_version v) =
      sym (no_lt 1024 (length s) _ short refl) ∙ found_here.1 start (part_start s start) in
      rw (read, f)

-- the ways of `accept_plains`: q is the clause's verdict after the others
module _ (s : List ℕ) (w : Value) (count start : ℕ) (W : Walked s count start) (before : Bool) (q : Result Bool Refusal) (few : count < 16)
    (d : q ≡ verdict_after before (clause_in s start) w) where
  refused_by : (r : Result Clause Refusal) (y : Refusal) → verdict_after before r w ≡ Err y → r ≡ Err y
  refused_by (Ok c) y e = cc
  refused_by (Err x) y e = cc

  pub plains_refused : (y : Refusal) → q ≡ Err y → Err y ≡ told_by (clauses_from 16 s 0) w
  unfolding step_at
  plains_refused y g = accept_refused s w count start W (step_at s start) refl few y (refused_by (clause_in s start) y (sym d ∙ g))

  -- the clause was read, and its verdict is b
  record ReadAs (r : Result Clause Refusal) (b : Bool) : Type 0 where
    clause : Clause
    is : r ≡ Ok clause
    says : b ≡ before && clause_accepts clause w

  read_by : (r : Result Clause Refusal) (b : Bool) → verdict_after before r w ≡ Ok b → ReadAs r b
  read_by (Ok c) b e = record { clause = c; is = refl; says = cc }
  read_by (Err x) b e = let impossible : ◌≡◌ {A = ℕ} 0 1 = cc in absurd (omega arith)

  module _ (b : Bool) (g : q ≡ Ok b) where
    here : ReadAs (clause_in s start) b
    here = read_by (clause_in s start) b (sym d ∙ g)

    module _ (h : before ≡ all_accept (first_clauses s count) w) where
      pub plains_more : b ≡ all_accept (first_clauses s (count + 1)) w
      unfolding step_at
      plains_more = accept_more s w count start W (step_at s start) refl few here.clause here.is before b h here.says

      pub plains_last : (part : Part) → part ≡ part_at s start → part.last ≡ true → Ok b ≡ told_by (clauses_from 16 s 0) w
      unfolding step_at
      plains_last part p l =
          accept_last s w count start W (step_at s start) refl few here.clause here.is before b h here.says (ap (λ y. y.last) (sym p) ∙ l)

    pub plains_walk : (part : Part) → part ≡ part_at s start → part.last ≡ false → Walked s (count + 1) part.next
    unfolding step_at
    plains_walk part p l = rw p (walk_more s count start W (step_at s start) refl few here.clause here.is (ap (λ y. y.last) (sym p) ∙ l))
