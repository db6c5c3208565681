-- A list is refused with a number and a place exactly in the case of that row, and read exactly where no row has it; so say listing and
-- checking. Assumes nothing.
use Rattle.std.specs.Prelude.{Ok, Err}
use mathlib.Core.Path.{◌≡◌, refl, sym, ◌∙◌, ap}
use mathlib.Core.Logic.{◌↔◌}
use mathlib.Core.List.{List}
use Prim.Native.Nat.{ℕ, suc}
use native.Mathlib.Omega.{arith}
use lib.ListN.{length}
use Rattle.answers.specs.declared.Refusal.{Refusal}
use Rattle.answers.specs.Refusal.{refusal}
use Rattle.list_clauses.specs.declared.clause.Clause.{Clause}
use Rattle.list_clauses.specs.List.{Listing, refused, clauses, list_of, count_of, checked}
use Rattle.list_clauses.specs.Refusals.{Row}
use Rattle.list_clauses.proofs.Walks.{one_refusal, not_both}
use Rattle.list_clauses.proofs.Rows.{refused_in_its_case, row_of_refusal}

-- a list with its clauses
abbrev pub Listed : Listing → Type 0
Listed l = (cs : List Clause) × (l ≡ clauses cs)

-- no row has the list
abbrev pub NoRow : List ℕ → Type 0
NoRow s = (n p : ℕ) → Row s n p → ⊥

pub same_listing : {n p m q : ℕ} → refusal n p ≡ refusal m q → refused n p ≡ refused m q
same_listing e = ap (λ (x : Refusal). refused x.number x.place) e

-- the list
module _ (s : List ℕ) where
  pub list_refused_exactly : (n p : ℕ) → (list_of s ≡ refused n p) ↔ Row s n p
  list_refused_exactly n p = (row_of_refusal s n p, refused_in_its_case s n p)

  pub one_row : {n p m q : ℕ} → Row s n p → Row s m q → (n ≡ m) × (p ≡ q)
  one_row a b = one_refusal (sym (refused_in_its_case s _ _ a) ∙ refused_in_its_case s _ _ b)

  without_row : NoRow s → (l : Listing) → list_of s ≡ l → Listed (list_of s)
  without_row none (refused n p) e = absurd (none n p (row_of_refusal s n p e))
  without_row none (clauses cs) e = (cs, e)

  listed_without_row : Listed (list_of s) → NoRow s
  listed_without_row l n p r = not_both (sym l.1 ∙ refused_in_its_case s n p r)

  pub list_read_exactly : ((cs : List Clause) × (list_of s ≡ clauses cs)) ↔ NoRow s
  list_read_exactly = (listed_without_row, λ none. without_row none (list_of s) refl)

-- checking it
count_refused : (l : Listing) {n p : ℕ} → count_of l ≡ Err (refusal n p) → l ≡ refused n p
count_refused (refused m q) {n = n} {p = p} e = let same : refusal m q ≡ refusal n p = cc in same_listing same
count_refused (clauses cs) e = cc

count_listed : (l : Listing) (count : ℕ) → count_of l ≡ Ok count → Listed l
count_listed (refused m q) count e = let impossible : m ≡ suc m = cc in absurd (omega arith)
count_listed (clauses cs) count e = (cs, refl)

module _ (s : List ℕ) where
  pub check_refused_exactly : (n p : ℕ) → (checked s ≡ Err (refusal n p)) ↔ Row s n p
  unfolding checked
  check_refused_exactly n p = (λ e. row_of_refusal s n p (count_refused (list_of s) e), λ r. ap (count_of) (refused_in_its_case s n p r))

  counted_without_row : ((count : ℕ) × (checked s ≡ Ok count)) → NoRow s
  unfolding checked
  counted_without_row c = (list_read_exactly s).0 (count_listed (list_of s) c.0 c.1)

  counted : (cs : List Clause) → list_of s ≡ clauses cs → checked s ≡ Ok (length cs)
  unfolding checked
  counted cs e = rw e

  without_row_counted : NoRow s → (count : ℕ) × (checked s ≡ Ok count)
  without_row_counted none = let l = (list_read_exactly s).1 none in (length l.0, counted l.0 l.1)

  pub check_counted_exactly : ((count : ℕ) × (checked s ≡ Ok count)) ↔ NoRow s
  check_counted_exactly = (counted_without_row, without_row_counted)
