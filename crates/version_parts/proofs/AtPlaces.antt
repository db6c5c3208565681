-- What stands at a place: the ways of the functions of `places`, and where a number is refused.
-- Assumes nothing.
use Rattle.std.specs.Prelude.{Option, None, Some, Ok, Err}
use mathlib.Core.Path.{◌≡◌, refl, sym, ◌∙◌, ap}
use mathlib.Core.List.{List}
use Prim.Native.Nat.{ℕ, ◌+◌, ◌-◌, ◌≤◌, ◌<◌}
use native.Mathlib.Omega.{arith}
use lib.ListN.{length, get_or, take, drop, length-drop}
use Rattle.answers.specs.declared.Refusal.{Refusal}
use Rattle.chars.specs.Class.{class_of}
use Rattle.chars.proofs.Cases.{yes_eq, no_eq}
use Rattle.chars.proofs.Parts.{take_rest}
use Rattle.decimal.specs.Parse.{Leading, leading_length}
use Rattle.version_parts.specs.Places.{NumberAt, separator_end, number_at, marked_number, number_next, behind_mark}
use Rattle.version_parts.proofs.Ended.{number_ended, marked_ended}

-- the byte k at the place has class r
module _ (s : List ℕ) (at k r : ℕ) (e : k ≡ get_or s at 0) (f : r ≡ class_of k) where
  pub separator_there : r ≡ 2 → at + 1 ≡ separator_end s at
  unfolding separator_end
  separator_there h = yes_eq _ _ _ (ap class_of (sym e) ∙ sym f ∙ h) refl

  pub separator_missing : (r ≡ 2 → ⊥) → at ≡ separator_end s at
  unfolding separator_end
  separator_missing h = no_eq _ _ _ (λ q. h (f ∙ ap class_of e ∙ q)) refl

-- after the end of the text
pub number_past : (s : List ℕ) (at : ℕ) → length s < at → Ok None ≡ number_at s at
number_past s at h = sym (number_ended s at (omega arith))

pub marked_past : (s : List ℕ) (at mark : ℕ) → length s ≤ at → Ok None ≡ marked_number mark s at
marked_past s at mark h = sym (marked_ended s at mark h)

-- the number that leads the rest of the text ends within the text
pub number_ends : (s : List ℕ) (at : ℕ) (r : Leading) (n len : ℕ) (o : Option (ℕ × ℕ)) → leading_length r ≤ length (take (length s - at) (drop at s)) → r ≡ Ok o → o ≡ Some (n, len) →
    at ≤ length s → at + len ≤ length s
number_ends s at r n len o h f k g = omega (arith, rw (f, k) at (rw (take_rest s at) at h), length-drop at s)

-- the place of a refusal lies within the text
pub refused_within : (s : List ℕ) (r : NumberAt) (d : Refusal) → number_next r ≤ length s → r ≡ Err d → d.place ≤ length s
refused_within s r d h f = rw f at h

-- the place of the mark lies within the text, and so does the place after it
pub behind_mark_lem : (s : List ℕ) (at : ℕ) (r : NumberAt) → at < length s → behind_mark at r ≤ length s
behind_mark_lem s at (Ok None) h = omega arith
behind_mark_lem s at (Ok (Some (n, next))) h = omega arith
behind_mark_lem s at (Err e) h = omega arith
