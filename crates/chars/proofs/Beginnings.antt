-- Laws of lower case and beginnings: one step of the comparison, and what a beginning's length says.
-- Assumes nothing.
use mathlib.Core.Path.{◌≡◌, refl, ap}
use mathlib.Core.Bool.{Bool, true, false, cond, ◌&&◌}
use mathlib.Core.List.{List, [], ◌∷◌}
use Prim.Native.Nat.{ℕ, suc, ◌+◌, ◌≤◌, ◌<◌}
use native.Mathlib.Omega.{arith}
use lib.Dec.{leb, eqb}
use Rattle.std.specs.List.{list_all, zip}
use lib.ListN.{length}
use borrow.Author.Tests.{leb-true, leb-false, le-leb, lt-leb}
use Rattle.chars.specs.Case.{lower_of, lowered, starts_with, beginning_of, Begun}

-- a byte in lower case, by where it lies
module _ (b : ℕ) where
  pub lower_under : b < 65 → b ≡ lower_of b
  unfolding lower_of
  lower_under h = rw (lt-leb 65 b h)

  pub lower_over : 65 ≤ b → 90 < b → b ≡ lower_of b
  unfolding lower_of
  lower_over h g = rw (le-leb 65 b h, lt-leb b 90 g)

  pub lower_capital : 65 ≤ b → b ≤ 90 → b + 32 ≡ lower_of b
  unfolding lower_of
  lower_capital h g = rw (le-leb 65 b h, le-leb b 90 g)

pub lowered_length : (s : List ℕ) → length (lowered s) ≡ length s
unfolding lowered
lowered_length [] = refl
lowered_length (b ∷ s) = ap suc (lowered_length s)

never_longer : (w s : List ℕ) → length s < length w → starts_with w s ≡ false
unfolding starts_with
never_longer [] s h = absurd (omega arith)
never_longer (x ∷ w) [] h = refl
never_longer (x ∷ w) (b ∷ s) h = by (eqb (lower_of b) x) (never_longer w s (omega arith))
  where
    by : (t : Bool) → starts_with w s ≡ false → cond t (starts_with w s) false ≡ false
    by true e = e
    by false e = refl

-- the pairs of the bytes of two texts, as long as both last
abbrev pub same_as : List ℕ → List ℕ → Bool
same_as s w = list_all (λ (p : ℕ × ℕ). eqb (lower_of p.0) p.1) (zip s w)

pub same_pairs : (w s : List ℕ) → length w ≤ length s → list_all (λ (p : ℕ × ℕ). eqb (lower_of p.0) p.1) (zip s w) ≡ starts_with w s
unfolding starts_with
same_pairs [] [] h = refl
same_pairs [] (b ∷ s) h = refl
same_pairs (x ∷ w) [] h = absurd (omega arith)
same_pairs (x ∷ w) (b ∷ s) h = by (eqb (lower_of b) x) (same_pairs w s (omega arith))
  where
    by : (t : Bool) → list_all (λ (p : ℕ × ℕ). eqb (lower_of p.0) p.1) (zip s w) ≡ starts_with w s → (t && list_all (λ (p : ℕ × ℕ). eqb (lower_of p.0) p.1) (zip s w)) ≡ cond t (starts_with w s) false
    by true e = e
    by false e = refl

module _ (w s : List ℕ) where
  pub begun_as : length w ≤ length s → true ≡ same_as s w → Begun w s (length w)
  unfolding beginning_of
  begun_as h e = record { is = rw (← same_pairs w s h, ← e); within = h }

  pub not_begun_as : length w ≤ length s → false ≡ same_as s w → Begun w s 0
  unfolding beginning_of
  not_begun_as h e = record { is = rw (← same_pairs w s h, ← e); within = omega arith }

  pub too_short : length s < length w → Begun w s 0
  unfolding beginning_of
  too_short h = record { is = rw (never_longer w s h); within = omega arith }

pub beginning_within : (w s : List ℕ) → beginning_of w s ≤ length s
unfolding beginning_of
beginning_within w s = by (leb (length w) (length s)) refl
  where
    short : (t : Bool) → (length w ≤ length s) → cond t (length w) 0 ≤ length s
    short true h = h
    short false h = omega arith

    by : (t : Bool) → leb (length w) (length s) ≡ t → cond (starts_with w s) (length w) 0 ≤ length s
    by true e = short (starts_with w s) (leb-true _ _ e)
    by false e = rw (never_longer w s (leb-false _ _ e)) (omega arith)

-- What the length n of a beginning says. The word has a byte, so that 0 says that the text does not begin with it.
module _ (x : ℕ) (w s : List ℕ) (n : ℕ) (e : n ≡ beginning_of (x ∷ w) s) where
  pub begun : (n ≡ 0 → ⊥) → (starts_with (x ∷ w) s ≡ true) × (n ≡ length (x ∷ w))
  unfolding beginning_of
  begun h = go (starts_with (x ∷ w) s) refl e
    where
      go : (t : Bool) → starts_with (x ∷ w) s ≡ t → n ≡ cond t (length (x ∷ w)) 0 → (starts_with (x ∷ w) s ≡ true) × (n ≡ length (x ∷ w))
      go true q f = (q, f)
      go false q f = absurd (h f)

  pub not_begun : n ≡ 0 → starts_with (x ∷ w) s ≡ false
  unfolding beginning_of
  not_begun z = go (starts_with (x ∷ w) s) refl e
    where
      go : (t : Bool) → starts_with (x ∷ w) s ≡ t → n ≡ cond t (length (x ∷ w)) 0 → starts_with (x ∷ w) s ≡ false
      go true q f = absurd (omega arith)
      go false q f = q
