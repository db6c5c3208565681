-- What the numbers of an accepted list's ranges stand for, and that one answer meets the statement.
-- Assumes nothing.
use mathlib.Core.Path.{◌≡◌, sym, ◌∙◌, ap}
use mathlib.Core.List.{List, map}
use Prim.Native.Nat.{ℕ, ◌+◌, ◌*◌, ◌<◌}
use native.Mathlib.Omega.{arith}
use lib.ListN.{length}
use Rattle.order.specs.All.{All}
use Rattle.ranges.specs.Map.{map_range}
use Rattle.ranges.proofs.Same.{Between}
use Rattle.list_clauses.specs.declared.clause.Clause.{Clause}
use Rattle.list_clauses.specs.List.{clauses, list_of}
use Rattle.list_clauses.proofs.Lists.{all_read}
use Rattle.list_ends.specs.Number.{place_number}
use Rattle.list_ends.specs.Shape.{ranges_of}
use Rattle.answers.specs.declared.Refusal.{Refusal}
use Rattle.std.specs.Prelude.{Result}
use Rattle.list_clauses.specs.Step.{first_clauses}
use Rattle.list_clauses.proofs.Walks.{AllRead}
use Rattle.list_fold.specs.declared.fold.Folded.{Folded}
use Rattle.list_fold.specs.Numbered.{folded_by, numbered}
use Rattle.list_fold.specs.Folded.{FoldedAs}
use Rattle.list_fold.proofs.Numbered.{folded_places, folded_in}

places : {s : List ℕ} (cs : List Clause) → AllRead s cs → map (map_range (place_number s)) (folded_by s cs) ≡ ranges_of cs
places {s = s} cs all =
    let read : length (first_clauses s (length cs)) ≡ length cs = ap length (sym all.are) in
    rw all.are (folded_places s (length cs) read)

module _ (s : List ℕ) (cs : List Clause) (e : list_of s ≡ clauses cs) where
  -- number by number they are the ranges of the clauses
  pub numbered_places : map (map_range (place_number s)) (numbered s) ≡ ranges_of cs
  unfolding numbered
  numbered_places = rw e (places cs (all_read s cs e))

  -- and each is the number of an end that the list has
  pub numbered_in : All (Between (λ n. n < 2 + 2 * length cs)) (numbered s)
  unfolding numbered
  numbered_in = rw e (folded_in s (2 + 2 * length cs) cs (omega arith))

pub one_fold : (s : List ℕ) (r q : Result Folded Refusal) → FoldedAs s r → FoldedAs s q → r ≡ q
one_fold s r q h k = h.is ∙ sym k.is
