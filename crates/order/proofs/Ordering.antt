-- Laws of the answers alone: that `also` keeps both laws of an order, and how it behaves beside `eq`, `is_le` and another `also`.
-- Proved by cases, for all answers. Assumes nothing.
use mathlib.Core.Path.{◌≡◌, refl}
use mathlib.Core.Bool.{true}
use Rattle.order.specs.Ordering.{Ordering, lt, eq, gt, is_le, flip, also}
use Rattle.order.specs.Laws.{Triangle}

-- where the first, or the last, of three lies below both others or above both, any answer o between those two fits
pub record Extremes (o : Ordering) : Type 0 where
  pub first_least : Triangle lt o lt
  pub first_greatest : Triangle gt o gt
  pub last_least : Triangle o gt gt
  pub last_greatest : Triangle o lt lt

pub extremes : (o : Ordering) → Extremes o
extremes lt = record { first_least = refl; first_greatest = tt; last_least = tt; last_greatest = refl }
extremes eq = record { first_least = refl; first_greatest = refl; last_least = refl; last_greatest = refl }
extremes gt = record { first_least = tt; first_greatest = refl; last_least = refl; last_greatest = tt }

pub also_turn : (o p o' p' : Ordering) → o' ≡ flip o → p' ≡ flip p → also o' p' ≡ flip (also o p)
also_turn lt p o' p' e f = rw e
also_turn eq p o' p' e f = rw e f
also_turn gt p o' p' e f = rw e

pub also_tri : (o₁ o₂ o₃ p₁ p₂ p₃ : Ordering) → Triangle o₁ o₂ o₃ → Triangle p₁ p₂ p₃
    → Triangle (also o₁ p₁) (also o₂ p₂) (also o₃ p₃)
also_tri lt lt o₃ p₁ p₂ p₃ s t = rw s
also_tri lt eq o₃ p₁ p₂ p₃ s t = rw s (extremes p₂).first_least
also_tri lt gt o₃ p₁ p₂ p₃ s t = tt
also_tri eq lt o₃ p₁ p₂ p₃ s t = rw s (extremes p₁).last_greatest
also_tri eq eq o₃ p₁ p₂ p₃ s t = rw s t
also_tri eq gt o₃ p₁ p₂ p₃ s t = rw s (extremes p₁).last_least
also_tri gt lt o₃ p₁ p₂ p₃ s t = tt
also_tri gt eq o₃ p₁ p₂ p₃ s t = rw s (extremes p₂).first_greatest
also_tri gt gt o₃ p₁ p₂ p₃ s t = rw s

pub also_assoc : (o p q : Ordering) → also (also o p) q ≡ also o (also p q)
also_assoc lt p q = refl
also_assoc eq p q = refl
also_assoc gt p q = refl

pub also_eq : (o : Ordering) → also o eq ≡ o
also_eq lt = refl
also_eq eq = refl
also_eq gt = refl

-- an answer that finds a difference decides alone
pub also_decided : (o p : Ordering) → (o ≡ eq → ⊥) → also o p ≡ o
also_decided lt p n = refl
also_decided eq p n = absurd (n refl)
also_decided gt p n = refl

-- where the second answer is at most, the first alone says whether both together are
pub also_at_most : (o p : Ordering) → is_le p ≡ true → is_le (also o p) ≡ is_le o
also_at_most lt p e = refl
also_at_most eq p e = e
also_at_most gt p e = refl
