-- Plain versions compare and match as the versions that they are.
-- Assumes nothing.
use mathlib.Core.Path.{◌≡◌, refl, sym, ap, ◌∙◌}
use mathlib.Core.Bool.{Bool, true, false, ◌&&◌}
use mathlib.Core.List.{List, [], ◌∷◌}
use Prim.Native.Nat.{ℕ, zero, suc, ◌-◌, ◌≤◌, ◌<◌}
use native.Mathlib.Omega.{arith}
use lib.Dec.{eqb}
use lib.ListN.{length, take, replicate}
use borrow.Author.Tests.{eq-eqb, ne_eqb}
use Rattle.order.specs.Answer.{name_of}
use Rattle.std.specs.declared.cmp.Ordering.{Ordering as Order}
use Rattle.version_reading.specs.declared.plain.Plain.{Plain}
use Rattle.version_reading.specs.Plain.{Filled, FilledPlain}
use Rattle.version_reading.specs.Value.{value_of}
use Rattle.version_compare.specs.Plain.{compare_plains}
use Rattle.version_order.specs.Versions.{compare_public}
use Rattle.version_prefix.specs.Prefix.{begins, prefix_matches, shorter}
use Rattle.version_compare.proofs.Plains.{plains_compare}
use Rattle.list_accepting.specs.Plain.{plain_value}

pub plain_order : (w v : Plain) (r : Order) → FilledPlain w → FilledPlain v → r ≡ name_of (compare_plains w v) →
    r ≡ name_of (compare_public (plain_value w) (plain_value v))
plain_order w v r f g e = e ∙ ap name_of (plains_compare w v f g)

-- two lists that begin alike: zeros at the end make no difference
abbrev Alike : List ℕ → List ℕ → Type 0
Alike l m = (p : List ℕ) → begins p l ≡ begins p m

zeros : (k : ℕ) → Alike [] (replicate k 0)
zeros k [] = refl
zeros zero (x ∷ p) = refl
zeros (suc k) (x ∷ p) = ap (◌&&◌ (eqb x 0)) (zeros k p)

behind : (a : ℕ) (l m : List ℕ) → Alike l m → Alike (a ∷ l) (a ∷ m)
behind a l m same [] = refl
behind a l m same (x ∷ p) = ap (◌&&◌ (eqb x a)) (same p)

-- as many of the four numbers as are there begin as all four
filled_alike : (count a b c d : ℕ) → Filled count a b c d → Alike (take count (a ∷ b ∷ c ∷ d ∷ replicate 12 0)) (a ∷ b ∷ c ∷ d ∷ [])
filled_alike count a b c d (Filled.none n p q r t) x = rw (n, p, q, r, t) (zeros 4 x)
filled_alike count a b c d (Filled.one n q r t) x = rw (n, q, r, t) (behind a [] (0 ∷ 0 ∷ 0 ∷ []) (zeros 3) x)
filled_alike count a b c d (Filled.two n r t) x =
    rw (n, r, t) (behind a (b ∷ []) (b ∷ 0 ∷ 0 ∷ []) (behind b [] (0 ∷ 0 ∷ []) (zeros 2)) x)
filled_alike count a b c d (Filled.three n t) x =
    rw (n, t) (behind a (b ∷ c ∷ []) (b ∷ c ∷ 0 ∷ []) (behind b (c ∷ []) (c ∷ 0 ∷ []) (behind c [] (0 ∷ []) (zeros 1))) x)
filled_alike count a b c d (Filled.four n) x = rw n

-- the numbers but the last are among the first three
all_but_last : (count a b c d : ℕ) → Filled count a b c d →
    let numbers = take count (a ∷ b ∷ c ∷ d ∷ replicate 12 0) in take (length numbers - 1) numbers ≡ take (count - 1) (a ∷ b ∷ c ∷ [])
all_but_last count a b c d (Filled.none n p q r t) = rw n
all_but_last count a b c d (Filled.one n q r t) = rw n
all_but_last count a b c d (Filled.two n r t) = rw n
all_but_last count a b c d (Filled.three n t) = rw n
all_but_last count a b c d (Filled.four n) = rw n

at_most_four : (count a b c d : ℕ) → Filled count a b c d → count ≤ 4
at_most_four count a b c d (Filled.none n p q r t) = omega arith
at_most_four count a b c d (Filled.one n q r t) = omega arith
at_most_four count a b c d (Filled.two n r t) = omega arith
at_most_four count a b c d (Filled.three n t) = omega arith
at_most_four count a b c d (Filled.four n) = omega arith

-- the ways of `begins_alike`
module _ (v w : Plain) (f : FilledPlain v) (g : FilledPlain w) where
  abbrev Matching : Bool
  Matching = prefix_matches (shorter (plain_value v)) (plain_value w)

  by_numbers : (m : ℕ) → v.count - 1 ≡ m → Matching ≡ begins (take m (v.first ∷ v.second ∷ v.third ∷ [])) (w.first ∷ w.second ∷ w.third ∷ w.fourth ∷ [])
  unfolding prefix_matches value_of
  by_numbers m e =
      ap (λ p. begins p (take w.count (w.first ∷ w.second ∷ w.third ∷ w.fourth ∷ replicate 12 0)))
      (all_but_last v.count v.first v.second v.third v.fourth f ∙ ap (λ k. take k (v.first ∷ v.second ∷ v.third ∷ [])) e)
      ∙ filled_alike w.count w.first w.second w.third w.fourth g (take m (v.first ∷ v.second ∷ v.third ∷ []))

  pub alike_none : v.count ≤ 1 → true ≡ Matching
  alike_none h = sym (by_numbers 0 (omega arith))

  module _ (some : 1 < v.count) where
    pub differ_first : (v.first ≡ w.first → ⊥) → false ≡ Matching
    differ_first h = rw (by_numbers (suc (v.count - 2)) (omega arith), ne_eqb _ _ h)

    module _ (first : v.first ≡ w.first) where
      pub alike_one : v.count ≡ 2 → true ≡ Matching
      alike_one h = rw (by_numbers 1 (omega arith), eq-eqb _ _ first)

      module _ (more : v.count ≡ 2 → ⊥) where
        pub differ_second : (v.second ≡ w.second → ⊥) → false ≡ Matching
        differ_second h =
            let size : v.count - 1 ≡ suc (suc (v.count - 3)) = omega arith in
            rw (by_numbers _ size, eq-eqb _ _ first, ne_eqb _ _ h)

        module _ (second : v.second ≡ w.second) where
          pub alike_two : v.count ≡ 3 → true ≡ Matching
          alike_two h = rw (by_numbers 2 (omega arith), eq-eqb _ _ first, eq-eqb _ _ second)

          module _ (most : v.count ≡ 3 → ⊥) where
            size : v.count - 1 ≡ 3
            size = omega (arith, at_most_four v.count v.first v.second v.third v.fourth f)

            pub differ_third : (v.third ≡ w.third → ⊥) → false ≡ Matching
            differ_third h = rw (by_numbers 3 size, eq-eqb _ _ first, eq-eqb _ _ second, ne_eqb _ _ h)

            pub alike_three : v.third ≡ w.third → true ≡ Matching
            alike_three third = rw (by_numbers 3 size, eq-eqb _ _ first, eq-eqb _ _ second, eq-eqb _ _ third)
