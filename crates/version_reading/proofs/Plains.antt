-- The ways of the functions that read a plain version, and that what they find is what the rules read.
-- Assumes nothing.
use Rattle.std.specs.Prelude.{Option, None, Some, Ok, Err}
use mathlib.Core.Path.{◌≡◌, refl, ap}
use mathlib.Core.List.{List, [], ◌∷◌}
use Prim.Native.Nat.{ℕ, ◌-◌, ◌≤◌}
use lib.ListN.{length, take, drop}
use Rattle.answers.specs.declared.Refusal.{Refusal}
use Rattle.chars.specs.declared.spelling.PreKind.{PreKind}
use Rattle.chars.specs.Case.{beginning_of}
use Rattle.chars.proofs.Cases.{yes_eq, no_eq, yes_flag, no_flag}
use Rattle.chars.proofs.Beginnings.{begun, not_begun}
use Rattle.chars.proofs.Parts.{take_rest}
use Rattle.version_parts.specs.Suffix.{Step, Parts, suffix_at}
use Rattle.version_reading.specs.declared.plain.PlainHead.{PlainHead}
use Rattle.version_reading.specs.declared.plain.Plain.{Plain}
use Rattle.version_reading.specs.Plain.{Filled, PlainFilled, plain_with, plain_at}

-- what is found has the numbers of its head
pub found_filled : (h : PlainHead) (pre : Option (PreKind × ℕ)) (post dev : Option ℕ) (v : Plain) → v ≡ plain_with h pre post dev → h.count ≤ 4 →
    Filled h.count h.first h.second h.third h.fourth → PlainFilled v
found_filled h pre post dev v e few filled = rw e (record { few = few; filled = filled })

-- after the head: the text ends there
pub plain_bare : (s : List ℕ) (h : PlainHead) (v : Plain) → h.at ≡ length s → v ≡ plain_with h None None None → Some v ≡ plain_at s h
unfolding plain_at
plain_bare s h v e g = yes_eq _ _ _ e (ap Some g)

-- or n bytes of `.*` stand there, or the suffix x
module _ (s : List ℕ) (h : PlainHead) (n : ℕ) (e : h.at ≡ length s → ⊥)
    (b : n ≡ beginning_of (46 ∷ 42 ∷ []) (take (length s - h.at) (drop h.at s))) where
  star : n ≡ beginning_of (46 ∷ 42 ∷ []) (drop h.at s)
  star = rw (take_rest s h.at) at b

  pub plain_star : (n ≡ 0 → ⊥) → None ≡ plain_at s h
  unfolding plain_at
  plain_star z = no_eq _ _ _ e (yes_flag _ (begun 46 (42 ∷ []) _ n star z).0 refl)

  module _ (z : n ≡ 0) (x : Step Parts) (f : x ≡ suffix_at s h.at) where
    pub plain_big : (d : Refusal) → x ≡ Err d → None ≡ plain_at s h
    unfolding plain_at
    plain_big d k = no_eq _ _ _ e (no_flag _ (not_begun 46 (42 ∷ []) _ n star z) (rw (← f, k)))

    module _ (pre : Option (PreKind × ℕ)) (post dev : Option ℕ) (next : ℕ) (k : x ≡ Ok ((pre, post, dev), next)) where
      pub plain_end : (v : Plain) → next ≡ length s → v ≡ plain_with h pre post dev → Some v ≡ plain_at s h
      unfolding plain_at
      plain_end v i g = no_eq _ _ _ e (no_flag _ (not_begun 46 (42 ∷ []) _ n star z) (rw (← f, k) (yes_eq _ _ _ i (ap Some g))))

      pub plain_more : (next ≡ length s → ⊥) → None ≡ plain_at s h
      unfolding plain_at
      plain_more i = no_eq _ _ _ e (no_flag _ (not_begun 46 (42 ∷ []) _ n star z) (rw (← f, k) (no_eq _ _ _ i refl)))
