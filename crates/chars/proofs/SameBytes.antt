-- What `same_bytes` says: the texts are equal.
-- Assumes nothing.
use mathlib.Core.Path.{◌≡◌, refl}
use mathlib.Core.Bool.{Bool, true, false, ◌&&◌}
use mathlib.Core.List.{List, [], ◌∷◌}
use Prim.Native.Nat.{ℕ}
use lib.Dec.{eqb}
use borrow.Author.Tests.{eq-eqb, eqb-true}
use Rattle.chars.specs.Same.{same_bytes}

pub same_self : (a : List ℕ) → same_bytes a a ≡ true
same_self [] = refl
same_self (x ∷ a) = rw (eq-eqb x x refl) (same_self a)

pub same_is : (a b : List ℕ) → same_bytes a b ≡ true → a ≡ b
same_is [] [] e = refl
same_is [] (y ∷ b) e = cc
same_is (x ∷ a) [] e = cc
same_is (x ∷ a) (y ∷ b) e = both (eqb x y) refl (λ g. same_is a b g) e
  where
    both : (t : Bool) → eqb x y ≡ t → (same_bytes a b ≡ true → a ≡ b) → t && same_bytes a b ≡ true → x ∷ a ≡ y ∷ b
    both true f more g = rw (eqb-true x y f, more g)
    both false f more g = cc
