-- Lists of which the shorter is continued with d: one step compares the first elements and goes on with the tails, and so the laws of
-- an order are kept. Everything that needs the padded comparison (the prefix rule, the packed word, a loop over two lists) goes through
-- `padded_step`. Assumes nothing.
use mathlib.Core.Path.{◌≡◌, refl, sym, ◌∙◌}
use mathlib.Core.List.{List, [], ◌∷◌, ◌++◌, tail}
use Prim.Native.Nat.{ℕ, zero, suc}
use native.Mathlib.Omega.{arith}
use lib.ListN.{length, get_or, drop, replicate}
use Rattle.order.specs.Ordering.{eq, flip, also}
use Rattle.order.specs.Compare.{Comparison, by, padded, head_or}
use Rattle.order.specs.Laws.{Triangle, Laws}
use Rattle.order.proofs.Ordering.{also_turn, also_tri, also_assoc}
use Rattle.order.proofs.Derived.{reflexive}

module _ {A : Type 0} {cmp : Comparison A} (L : Laws cmp) (d : A) where
  pub padded_step : (a b : List A) → padded cmp d a b ≡ also (cmp (head_or d a) (head_or d b)) (padded cmp d (tail a) (tail b))
  padded_step [] [] = rw (reflexive L d)
  padded_step [] (y ∷ b) = refl
  padded_step (x ∷ a) [] = refl
  padded_step (x ∷ a) (y ∷ b) = refl

  -- the two parts of a step, each a comparison of lists
  abbrev heads : Comparison (List A)
  heads = by (head_or d) cmp

  abbrev tails : Comparison (List A)
  tails = by tail (padded cmp d)

  -- what holds of the tails holds of the lists
  turn_step : (a b : List A) → tails b a ≡ flip (tails a b) → padded cmp d b a ≡ flip (padded cmp d a b)
  turn_step a b e =
      rw (padded_step a b, padded_step b a)
      (also_turn (heads a b) (tails a b) (heads b a) (tails b a) (L.turn (head_or d a) (head_or d b)) e)

  tri_step : (a b c : List A) → Triangle (tails a b) (tails b c) (tails a c)
      → Triangle (padded cmp d a b) (padded cmp d b c) (padded cmp d a c)
  tri_step a b c t =
      rw (padded_step a b, padded_step b c, padded_step a c)
      (also_tri (heads a b) (heads b c) (heads a c) (tails a b) (tails b c) (tails a c) (L.tri (head_or d a) (head_or d b) (head_or d c)) t)

  turn : (a b : List A) → padded cmp d b a ≡ flip (padded cmp d a b)
  turn [] [] = refl
  turn [] (y ∷ b) = turn_step [] (y ∷ b) (turn [] b)
  turn (x ∷ a) [] = turn_step (x ∷ a) [] (turn a [])
  turn (x ∷ a) (y ∷ b) = turn_step (x ∷ a) (y ∷ b) (turn a b)

  tri : (a b c : List A) → Triangle (padded cmp d a b) (padded cmp d b c) (padded cmp d a c)
  tri [] [] [] = refl
  tri [] [] (z ∷ c) = tri_step [] [] (z ∷ c) (tri [] [] c)
  tri [] (y ∷ b) [] = tri_step [] (y ∷ b) [] (tri [] b [])
  tri [] (y ∷ b) (z ∷ c) = tri_step [] (y ∷ b) (z ∷ c) (tri [] b c)
  tri (x ∷ a) [] [] = tri_step (x ∷ a) [] [] (tri a [] [])
  tri (x ∷ a) [] (z ∷ c) = tri_step (x ∷ a) [] (z ∷ c) (tri a [] c)
  tri (x ∷ a) (y ∷ b) [] = tri_step (x ∷ a) (y ∷ b) [] (tri a b [])
  tri (x ∷ a) (y ∷ b) (z ∷ c) = tri_step (x ∷ a) (y ∷ b) (z ∷ c) (tri a b c)

  pub padded_laws : Laws (padded cmp d)
  padded_laws = record { turn = turn; tri = tri }

  -- a list that is continued with d is equal to the list
  pub padded_continued : (a : List A) (n : ℕ) → padded cmp d (a ++ replicate n d) a ≡ eq
  padded_continued [] zero = refl
  padded_continued [] (suc n) = rw (reflexive L d) (padded_continued [] n)
  padded_continued (x ∷ a) n = rw (reflexive L x) (padded_continued a n)

-- two beginnings of one length decide, then what follows them
pub padded_append : {A : Type 0} (cmp : Comparison A) (d : A) (a b k l : List A) → length a ≡ length b
    → padded cmp d (a ++ k) (b ++ l) ≡ also (padded cmp d a b) (padded cmp d k l)
padded_append cmp d [] [] k l h = refl
padded_append cmp d [] (y ∷ b) k l h = absurd (omega arith)
padded_append cmp d (x ∷ a) [] k l h = absurd (omega arith)
padded_append cmp d (x ∷ a) (y ∷ b) k l h =
    rw (padded_append cmp d a b k l (omega arith)) (sym (also_assoc (cmp x y) (padded cmp d a b) (padded cmp d k l)))

-- what a list has from place i on
pub head_of_drop : {A : Type 0} (d : A) (l : List A) (i : ℕ) → head_or d (drop i l) ≡ get_or l i d
head_of_drop d [] zero = refl
head_of_drop d [] (suc i) = refl
head_of_drop d (x ∷ l) zero = refl
head_of_drop d (x ∷ l) (suc i) = head_of_drop d l i

pub tail_of_drop : {A : Type 0} (l : List A) (i : ℕ) → tail (drop i l) ≡ drop (suc i) l
tail_of_drop [] zero = refl
tail_of_drop [] (suc i) = refl
tail_of_drop (x ∷ l) zero = refl
tail_of_drop (x ∷ l) (suc i) = tail_of_drop l i

-- a turn of a loop over the places of two lists
pub padded_at : {A : Type 0} {cmp : Comparison A} (L : Laws cmp) (d : A) (a b : List A) (i : ℕ)
    → padded cmp d (drop i a) (drop i b) ≡ also (cmp (get_or a i d) (get_or b i d)) (padded cmp d (drop (suc i) a) (drop (suc i) b))
padded_at L d a b i =
    padded_step L d (drop i a) (drop i b) ∙ rw (head_of_drop d a i, head_of_drop d b i, tail_of_drop a i, tail_of_drop b i)
