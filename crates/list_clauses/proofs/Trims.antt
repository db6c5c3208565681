-- A text ends with the last byte that is no blank.
-- Assumes nothing.
use mathlib.Core.Path.{◌≡◌, refl, sym, ◌∙◌}
use mathlib.Core.Bool.{Bool, true, false}
use mathlib.Core.List.{List, [], ◌∷◌}
use Prim.Native.Nat.{ℕ, zero, suc, ◌+◌, ◌<◌}
use native.Mathlib.Omega.{arith}
use lib.Dec.{eqb}
use lib.ListN.{length, get_or}
use borrow.Author.Tests.{eq-eqb, ne_eqb}
use Rattle.std.specs.Option.{MatchOption}
use Rattle.std.specs.declared.option.Option.{Option}
use Rattle.std.specs.declared.option.Option.TheVariants.{None, Some}
use Rattle.chars.specs.Class.{class_of, blank}
use Rattle.list_clauses.specs.Trim.{Trimmed, kept, trimmed_length}

kept_some : (t : Bool) (n : ℕ) → kept t (suc n) ≡ suc (suc n)
kept_some true n = rw (ne_eqb (suc n) 0 (λ q. omega arith))
kept_some false n = refl

all_blank : (s : List ℕ) → ((k : ℕ) → k < length s → class_of (get_or s k 0) ≡ blank) → trimmed_length s ≡ 0
unfolding trimmed_length
all_blank [] f = refl
all_blank (b ∷ s) f = rw (all_blank s (λ k h. f (suc k) (omega arith)), eq-eqb _ _ (f 0 (omega arith)))

-- the last byte that is no blank stands at i
kept_to : (s : List ℕ) (i : ℕ) → i < length s → (class_of (get_or s i 0) ≡ blank → ⊥) → ((k : ℕ) → i < k → k < length s → class_of (get_or s k 0) ≡ blank) → trimmed_length s ≡ suc i
unfolding trimmed_length
kept_to [] i h g f = absurd (omega arith)
kept_to (b ∷ s) zero h g f = rw (all_blank s (λ k m. f (suc k) (omega arith) (omega arith)), ne_eqb _ _ g)
kept_to (b ∷ s) (suc i) h g f =
    rw (kept_to s i (omega arith) g (λ k m n. f (suc k) (omega arith) (omega arith))) (kept_some (eqb (class_of b) blank) i)

-- where the last byte stands that is no blank
abbrev pub LastKept : List ℕ → Option ℕ → Type 0
LastKept s last =
    MatchOption last ((k : ℕ) → k < length s → class_of (get_or s k 0) ≡ blank)
    (λ i. (i < length s) × (class_of (get_or s i 0) ≡ blank → ⊥) × ((k : ℕ) → i < k → k < length s → class_of (get_or s k 0) ≡ blank))

pub trimmed_to : (s : List ℕ) (last : Option ℕ) (r : ℕ) → LastKept s last → MatchOption last (r ≡ 0) (λ i. r ≡ i + 1) → Trimmed s r
trimmed_to s None r f e = record { is = e ∙ sym (all_blank s f); within = omega arith }
trimmed_to s (Some i) r f e = record { is = omega (arith, kept_to s i f.0 f.1 f.2); within = omega (arith, f.0) }
