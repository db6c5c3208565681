-- What a list is: too long, blank, or what its clauses are. The ways of counting them.
-- Assumes nothing.
use Rattle.answers.specs.declared.Refusal.{Refusal}
use Rattle.std.specs.Prelude.{Result, Ok, Err}
use mathlib.Core.Path.{◌≡◌, refl, sym, ◌∙◌, ap}
use mathlib.Core.Bool.{true}
use mathlib.Core.List.{List, []}
use Prim.Native.Nat.{ℕ, ◌+◌, ◌≤◌, ◌<◌}
use native.Mathlib.Decide.{dec_lt, ℕ_discrete}
use native.Mathlib.Omega.{arith}
use lib.ListN.{length}
use Rattle.answers.specs.Refusal.{refusal}
use Rattle.chars.specs.Class.{blank, between, front}
use Rattle.chars.proofs.Cases.{yes_lt, no_lt, yes_is, no_is}
use Rattle.version_reading.specs.Reading.{longest}
use Rattle.list_clauses.specs.declared.clause.Clause.{Clause}
use Rattle.list_clauses.specs.declared.step.Step.{Step}
use Rattle.list_clauses.specs.Step.{step_at}
use Rattle.list_clauses.specs.List.{refused, clauses, clauses_from, list_of, count_of, checked}
use Rattle.list_clauses.proofs.Walks.{not_both, these, Walked, walk_none, walk_full, walk_refused, walk_last, count_more, AllRead, none_read, all_read_from}

-- n blanks stand in front
pub listed_long : (s : List ℕ) → 1024 < length s → refused 8 1024 ≡ list_of s
unfolding list_of
listed_long s h = yes_lt 1024 (length s) _ h refl

module _ (s : List ℕ) (n : ℕ) (short : length s ≤ 1024) (e : n ≡ front (between blank blank) s) where
  pub listed_blank : n ≡ length s → clauses [] ≡ list_of s
  unfolding list_of
  listed_blank f = no_lt 1024 (length s) _ short (yes_is (length s) _ e f refl)

  pub listed_some : (n ≡ length s → ⊥) → clauses_from 16 s 0 ≡ list_of s
  unfolding list_of
  listed_some f = no_lt 1024 (length s) _ short (no_is (length s) _ e f refl)

-- the clauses of a list that is not refused
pub all_read : (s : List ℕ) (cs : List Clause) → list_of s ≡ clauses cs → AllRead s cs
all_read s cs e =
    elim (dec_lt longest (length s)) [
      | yes long ↦ absurd (not_both (sym e ∙ sym (listed_long s long)))
      | no within ↦
          let short : length s ≤ longest = omega arith in
          elim (ℕ_discrete (front (between blank blank) s) (length s)) [
            | yes f ↦ rw (these (listed_blank s _ short refl f ∙ e)) at (none_read s)
            | no f ↦ all_read_from s cs (listed_some s _ short refl f ∙ e) 16 0 0 refl (walk_none s)
          ]
    ]

-- the ways of `check_clauses`
module _ (s : List ℕ) (count start : ℕ) (W : Walked s count start) where
  pub check_full : 16 ≤ count → Err (refusal 17 start) ≡ count_of (clauses_from 16 s 0)
  check_full f = ap count_of (walk_full s count start W f)

  module _ (x : Step) (e : x ≡ step_at s start) (few : count < 16) where
    pub check_refused : (y : Refusal) → x.clause ≡ Err y → Err y ≡ count_of (clauses_from 16 s 0)
    check_refused y g = ap count_of (walk_refused s count start W x e few y g)

    pub check_last : (c : Clause) → x.clause ≡ Ok c → x.part.last ≡ true → Ok (count + 1) ≡ count_of (clauses_from 16 s 0)
    check_last c g h = ap Ok (sym (count_more s count start W x e few c g)) ∙ ap count_of (walk_last s count start W x e few c g h)

-- the ways of `check`
pub check_long : (s : List ℕ) → 1024 < length s → Err (refusal 8 1024) ≡ checked s
unfolding checked
check_long s h = ap count_of (listed_long s h)

module _ (s : List ℕ) (n : ℕ) (short : length s ≤ 1024) (e : n ≡ front (between blank blank) s) where
  pub check_blank : n ≡ length s → Ok 0 ≡ checked s
  unfolding checked
  check_blank f = ap count_of (listed_blank s n short e f)

  pub check_some : (q : Result ℕ Refusal) → (n ≡ length s → ⊥) → q ≡ count_of (clauses_from 16 s 0) → q ≡ checked s
  unfolding checked
  check_some q f g = g ∙ ap count_of (listed_some s n short e f)
