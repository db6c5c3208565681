-- A run counts what the library counts.
-- Assumes nothing.
use mathlib.Core.Path.{◌≡◌, refl, ◌∙◌, sym}
use mathlib.Core.Bool.{Bool, true, false, cond}
use mathlib.Core.List.{List, [], ◌∷◌}
use Prim.Native.Nat.{ℕ, suc, ◌+◌}
use native.Mathlib.Omega.{arith}
use Rattle.std.specs.List.{prefix_len}
use Rattle.std.proofs.lemmas.List.Sums.{prefix_len-le-length}
use Rattle.chars.specs.Class.{front, Counted}

front_is : (p : ℕ → Bool) (s : List ℕ) → front p s ≡ prefix_len p s
unfolding front
front_is p [] = refl
front_is p (b ∷ s) = by (p b) (front_is p s)
  where
    by : (t : Bool) → front p s ≡ prefix_len p s → cond t (suc (front p s)) 0 ≡ cond t (1 + prefix_len p s) 0
    by true e = omega (arith, e)
    by false e = refl

pub counted_as : (p : ℕ → Bool) (s : List ℕ) (r : ℕ) → r ≡ prefix_len p s → Counted p s r
counted_as p s r e = record { is = e ∙ sym (front_is p s); within = omega (arith, e, prefix_len-le-length p s) }
