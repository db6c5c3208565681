-- Looking for a byte: what the byte at a place decides, and what stands before the first b, in the words of the library.
-- Assumes nothing.
use mathlib.Core.Path.{◌≡◌, refl, ap}
use mathlib.Core.Bool.{Bool, true, false, not, cond}
use mathlib.Core.List.{List, [], ◌∷◌}
use Prim.Native.Nat.{ℕ, suc, ◌+◌, ◌<◌, ◌≤◌}
use native.Mathlib.Numerals.{add-one}
use native.Mathlib.Omega.{arith}
use lib.Dec.{eqb}
use lib.ListN.{length, get_or, drop, length-drop, drop_of_length-le}
use lib.Seq.{drop-cons}
use borrow.Author.Tests.{eq-eqb, ne_eqb}
use Rattle.std.specs.List.{prefix_len}
use Rattle.std.proofs.lemmas.List.Sums.{prefix_len-le-length}
use Rattle.chars.specs.Scan.{index_of, index_after, FoundFrom}

module _ (s : List ℕ) (at b : ℕ) where
  pub found_here : at < length s → get_or s at 0 ≡ b → index_of b (drop at s) ≡ 0
  unfolding index_of index_after
  found_here h e = rw (drop-cons s at 0 h, eq-eqb _ _ e)

  pub found_further : at < length s → (get_or s at 0 ≡ b → ⊥) → index_of b (drop at s) ≡ suc (index_of b (drop (at + 1) s))
  unfolding index_of index_after
  found_further h n = rw (drop-cons s at 0 h, ne_eqb _ _ n, add-one at)

  pub found_nowhere : length s ≤ at → index_of b (drop at s) ≡ 0
  unfolding index_of
  found_nowhere h = rw (drop_of_length-le s h)

index_is : (b : ℕ) (s : List ℕ) → index_of b s ≡ prefix_len (λ x. not (eqb x b)) s
unfolding index_of index_after
index_is b [] = refl
index_is b (x ∷ s) = by (eqb x b) (index_is b s)
  where
    by : (t : Bool) → index_of b s ≡ prefix_len (λ x. not (eqb x b)) s → index_after t (index_of b s) ≡ cond (not t) (1 + prefix_len (λ x. not (eqb x b)) s) 0
    by true e = refl
    by false e = omega (arith, e)

pub found_as : (s : List ℕ) (from b : ℕ) (rest : List ℕ) (n : ℕ) → rest ≡ drop from s → n ≡ prefix_len (λ x. not (eqb x b)) rest → FoundFrom s from b (from + n)
found_as s from b rest n f e =
    record {
      is = rw (← f) (omega (arith, e, index_is b rest));
      within = omega (arith, e, prefix_len-le-length (λ x. not (eqb x b)) rest, ap length f, length-drop from s);
    }

pub found_past : (s : List ℕ) (from b : ℕ) → length s < from → FoundFrom s from b from
unfolding index_of
found_past s from b h = let none : drop from s ≡ [] = drop_of_length-le s (omega arith) in record { is = rw none (omega arith); within = omega arith }
