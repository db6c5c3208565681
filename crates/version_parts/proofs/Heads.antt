-- The ways of the functions that read the head: rules 1 to 3.
-- Assumes nothing.
use Rattle.std.specs.Prelude.{Result, Ok, Err, None, Some}
use mathlib.Core.Path.{◌≡◌, refl, sym, ◌∙◌, ap}
use mathlib.Core.List.{List}
use Prim.Native.Nat.{ℕ, zero, suc, ◌+◌, ◌-◌, ◌≤◌}
use native.Mathlib.Omega.{arith}
use lib.ListN.{get_or}
use Rattle.answers.specs.declared.Refusal.{Refusal}
use Rattle.chars.specs.Class.{blank, between, front}
use Rattle.chars.specs.Case.{lower_of}
use Rattle.chars.proofs.Cases.{yes_eq, no_eq}
use Rattle.version_parts.specs.declared.fields.Release.{Release}
use Rattle.version_parts.specs.declared.head.Head.{Head}
use Rattle.version_parts.specs.Fields.{pushed_number}
use Rattle.version_parts.specs.Places.{NumberAt, marked_number}
use Rattle.version_parts.specs.Head.{lead_end, head_read, head_refused, release_from}

-- after the blanks stands the byte k, r in lower case
module _ (s : List ℕ) (at k r : ℕ) (a : at ≡ front (between blank blank) s) (e : k ≡ get_or s at 0) (f : r ≡ lower_of k) where
  pub lead_v : r ≡ 118 → at + 1 ≡ lead_end s
  unfolding lead_end
  lead_v h = rw (← a) (yes_eq _ _ _ (ap lower_of (sym e) ∙ sym f ∙ h) refl)

  pub lead_plain : (r ≡ 118 → ⊥) → at ≡ lead_end s
  unfolding lead_end
  lead_plain h = rw (← a) (no_eq _ _ _ (λ q. h (f ∙ ap lower_of e ∙ q)) refl)

-- one turn of the release: the release so far at `at`, the dot and number r there, and the answer t of the whole
module _ (s : List ℕ) (epoch : ℕ) (release : Release) (at : ℕ) (t : Result Head Refusal) (r : NumberAt)
    (same : release_from (16 - release.len) s epoch release at ≡ t) (e : r ≡ marked_number 46 s at) where
  pub release_done : r ≡ Ok None → head_read epoch release at ≡ t
  unfolding release_from
  release_done f = sym (go (16 - release.len)) ∙ same
    where
      go : (room : ℕ) → release_from room s epoch release at ≡ head_read epoch release at
      go zero = rw (← e, f)
      go (suc room) = rw (← e, f)

  pub release_big : (q : Result Head Refusal) (d : Refusal) → r ≡ Err d → q ≡ Err d → q ≡ t
  unfolding release_from
  release_big q d f g = g ∙ sym (go (16 - release.len)) ∙ same
    where
      go : (room : ℕ) → release_from room s epoch release at ≡ Err d
      go zero = rw (← e, f)
      go (suc room) = rw (← e, f)

  pub release_full : (q : Result Head Refusal) (n next : ℕ) → r ≡ Ok (Some (n, next)) → release.len ≡ 16 → q ≡ head_refused 9 (at + 1) → q ≡ t
  unfolding release_from
  release_full q n next f full g = g ∙ sym turn ∙ same
    where
      turn : release_from (16 - release.len) s epoch release at ≡ head_refused 9 (at + 1)
      turn = rw (full, ← e, f)

  pub release_more : (q : Release) (n next : ℕ) → r ≡ Ok (Some (n, next)) → release.len ≤ 16 → (release.len ≡ 16 → ⊥) → q ≡ pushed_number release n →
      release_from (16 - q.len) s epoch q next ≡ t
  unfolding release_from
  release_more q n next f few room g = rw g (sym turn ∙ same)
    where
      one : 16 - release.len ≡ suc (16 - (release.len + 1))
      one = omega arith

      turn : release_from (16 - release.len) s epoch release at ≡ release_from (16 - (release.len + 1)) s epoch (pushed_number release n) next
      turn = rw (one, ← e, f)
