-- A walk over the clauses of a list, step by step: what is known so far, and one law for each way out.
-- Assumes nothing.
use Rattle.answers.specs.declared.Refusal.{Refusal}
use Rattle.std.specs.Prelude.{Result, Ok, Err}
use mathlib.Core.Path.{◌≡◌, refl, sym, ◌∙◌, ap}
use mathlib.Core.Bool.{true, false}
use mathlib.Core.List.{List, [], ◌∷◌, ◌++◌}
use Prim.Native.Nat.{ℕ, zero, suc, ◌+◌, ◌-◌, ◌≤◌, ◌<◌}
use native.Mathlib.Numerals.{add-one}
use native.Mathlib.Omega.{arith}
use lib.ListN.{length, length-append}
use Rattle.version.proofs.Answers.{flag_cases, holds, fails}
use Rattle.list_clauses.specs.declared.clause.Clause.{Clause}
use Rattle.list_clauses.specs.declared.step.Step.{Step}
use Rattle.list_clauses.specs.Step.{clause_in, step_at, start_at, first_clauses}
use Rattle.list_clauses.specs.List.{Listing, refused, clauses, followed, clauses_from}

-- a listing has one refusal or none
pub one_refusal : {n p m q : ℕ} → refused n p ≡ refused m q → (n ≡ m) × (p ≡ q)
one_refusal e = (cc, cc)

pub not_both : {cs : List Clause} {n p : ℕ} → clauses cs ≡ refused n p → ⊥
not_both {n = n} e = let impossible : n ≡ suc n = cc in omega arith

-- a clause was read or is refused
pub data Outcome (r : Result Clause Refusal) : Type 0 where
  was_read : (c : Clause) → r ≡ Ok c → Outcome r
  was_refused : (x : Refusal) → r ≡ Err x → Outcome r

pub outcome : (r : Result Clause Refusal) → Outcome r
outcome (Ok c) = was_read c refl
outcome (Err x) = was_refused x refl

-- one step from a place on
module _ (s : List ℕ) (start room : ℕ) (x : Step) (e : x ≡ step_at s start) where
  pub step_refused : (y : Refusal) → x.clause ≡ Err y → clauses_from (suc room) s start ≡ refused y.number y.place
  unfolding clauses_from
  step_refused y g = rw (← e, g)

  module _ (c : Clause) (g : x.clause ≡ Ok c) where
    pub step_last : x.part.last ≡ true → clauses_from (suc room) s start ≡ clauses (c ∷ [])
    unfolding clauses_from
    step_last h = rw (← e, g, h)

    pub step_more : x.part.last ≡ false → clauses_from (suc room) s start ≡ followed c (clauses_from room s x.part.next)
    unfolding clauses_from
    step_more h = rw (← e, g, h)

-- clauses that were read, and what comes after them
abbrev after : List Clause → Listing → Listing
after [] l = l
after (c ∷ cs) l = followed c (after cs l)

after_refused : (cs : List Clause) (n p : ℕ) → after cs (refused n p) ≡ refused n p
after_refused [] n p = refl
after_refused (c ∷ cs) n p = rw (after_refused cs n p)

after_last : (cs : List Clause) (c : Clause) → after cs (clauses (c ∷ [])) ≡ clauses (cs ++ (c ∷ []))
after_last [] c = refl
after_last (d ∷ cs) c = rw (after_last cs c)

after_more : (cs : List Clause) (c : Clause) (l : Listing) → after cs (followed c l) ≡ after (cs ++ (c ∷ [])) l
after_more [] c l = refl
after_more (d ∷ cs) c l = rw (after_more cs c l)

-- as many clauses were read as it says, and the next one starts at `start`
pub record Walked (s : List ℕ) (count start : ℕ) : Type 0 where
  pub at : start ≡ start_at s count
  pub all : length (first_clauses s count) ≡ count
  pub rest : after (first_clauses s count) (clauses_from (16 - count) s start) ≡ clauses_from 16 s 0

pub walk_none : (s : List ℕ) → Walked s 0 0
unfolding start_at first_clauses
walk_none s = record { at = refl; all = refl; rest = refl }

-- the first n clauses are n, where each was read
pub first_count : (s : List ℕ) (n : ℕ) → ((i : ℕ) → i < n → (c : Clause) × (clause_in s (start_at s i) ≡ Ok c)) → length (first_clauses s n) ≡ n
unfolding first_clauses
first_count s zero read = refl
first_count s (suc n) read =
    let last = read n (omega arith) in
    let before = first_count s n (λ i h. read i (omega arith)) in
    rw last.1 (omega (arith, length-append (first_clauses s n) (last.0 ∷ []), before))

module _ (s : List ℕ) (count start : ℕ) (W : Walked s count start) where
  -- a 17th clause begins
  pub walk_full : 16 ≤ count → refused 17 start ≡ clauses_from 16 s 0
  unfolding clauses_from
  walk_full f =
      let room : 16 - count ≡ 0 = omega arith in
      sym (after_refused (first_clauses s count) 17 start) ∙ (rw room at W.rest)

  module _ (x : Step) (e : x ≡ step_at s start) (few : count < 16) where
    room : 16 - count ≡ suc (16 - (count + 1))
    room = omega arith

    here : x.clause ≡ clause_in s (start_at s count)
    unfolding step_at
    here = ap (λ y. y.clause) e ∙ ap (clause_in s) W.at

    pub walk_refused : (y : Refusal) → x.clause ≡ Err y → refused y.number y.place ≡ clauses_from 16 s 0
    walk_refused y g =
        sym (after_refused (first_clauses s count) _ _) ∙ (rw (room, step_refused s start (16 - (count + 1)) x e y g) at W.rest)

    module _ (c : Clause) (g : x.clause ≡ Ok c) where
      pub clauses_more : first_clauses s count ++ (c ∷ []) ≡ first_clauses s (count + 1)
      unfolding first_clauses
      clauses_more = rw (add-one count, ← here, g)

      pub count_more : length (first_clauses s (count + 1)) ≡ count + 1
      count_more = ap length (sym clauses_more) ∙ omega (arith, length-append (first_clauses s count) (c ∷ []), W.all)

      pub walk_last : x.part.last ≡ true → clauses (first_clauses s (count + 1)) ≡ clauses_from 16 s 0
      walk_last h =
          rw (← clauses_more) (sym (after_last (first_clauses s count) c) ∙ (rw (room, step_last s start (16 - (count + 1)) x e c g h) at W.rest))

      pub walk_more : x.part.last ≡ false → Walked s (count + 1) x.part.next
      unfolding step_at start_at
      walk_more h = record {
        at = rw (add-one count, e, W.at);
        all = count_more;
        rest =
            rw (← clauses_more)
            (sym (after_more (first_clauses s count) c _) ∙ (rw (room, step_more s start (16 - (count + 1)) x e c g h) at W.rest));
      }

-- cs are the clauses that stand in s first, 16 at most, and each was read
pub record AllRead (s : List ℕ) (cs : List Clause) : Type 0 where
  pub are : cs ≡ first_clauses s (length cs)
  pub few : length cs ≤ 16

pub none_read : (s : List ℕ) → AllRead s []
unfolding first_clauses
none_read s = record { are = refl; few = omega arith }

pub these : {cs ds : List Clause} → clauses cs ≡ clauses ds → cs ≡ ds
these e = cc

module _ (s : List ℕ) (cs : List Clause) (e : clauses_from 16 s 0 ≡ clauses cs) where
  last_read : (n : ℕ) → n ≤ 16 → length (first_clauses s n) ≡ n → clauses (first_clauses s n) ≡ clauses_from 16 s 0 → AllRead s cs
  last_read n few all f =
      let same : first_clauses s n ≡ cs = these (f ∙ e) in
      let size : length cs ≡ n = ap length (sym same) ∙ all in
      record { are = rw (size, same); few = omega arith }

  pub all_read_from : (room count start : ℕ) → count + room ≡ 16 → Walked s count start → AllRead s cs
  all_read_from zero count start size W = absurd (not_both (sym e ∙ sym (walk_full s count start W (omega arith))))
  all_read_from (suc room) count start size W =
      let x : Step = step_at s start in
      let few : count < 16 = omega arith in
      elim (outcome x.clause) [
        | was_refused y g ↦ absurd (not_both (sym e ∙ sym (walk_refused s count start W x refl few y g)))
        | was_read c g ↦
            elim (flag_cases x.part.last) [
              | holds h ↦
                  last_read (count + 1) (omega arith) (count_more s count start W x refl few c g) (walk_last s count start W x refl few c g h)
              | fails h ↦ all_read_from room (count + 1) x.part.next (omega arith) (walk_more s count start W x refl few c g h)
            ]
      ]
