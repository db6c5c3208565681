-- Plain versions compare as the versions that they are.
-- Assumes nothing.
use mathlib.Core.Path.{◌≡◌, refl, sym, ap, ◌∙◌}
use mathlib.Core.List.{List, [], ◌∷◌}
use Prim.Native.Nat.{ℕ, zero, suc, compare}
use lib.ListN.{take, replicate}
use Rattle.order.specs.Ordering.{also, flip}
use Rattle.order.specs.Compare.{padded}
use Rattle.order.specs.Answer.{name_of}
use Rattle.std.specs.declared.cmp.Ordering.{Ordering as Order}
use Rattle.std.specs.declared.cmp.Ordering.TheVariants.{Less, Greater}
use Rattle.std.specs.Ordering.{MatchOrdering, nat_cmp, ordering_then}
use Rattle.order.proofs.Named.{number_named, then_is, four_named}
use Rattle.order.proofs.Ordering.{also_eq}
use Rattle.order.proofs.Padded.{padded_laws}
use Rattle.order.proofs.Numbers.{number_laws}
use Rattle.version_reading.specs.declared.plain.Plain.{Plain}
use Rattle.version_reading.specs.Plain.{Filled, FilledPlain, whole_version}
use Rattle.version_reading.specs.Value.{value_of, listed}
use Rattle.version_order.specs.Versions.{compare_release, compare_key, compare_public, compare_values}
use Rattle.version_order.specs.Key.{key_of}
use Rattle.version_compare.specs.Plain.{compare_numbers, compare_plains}
use Rattle.version_order.proofs.Orders.{label_blind, unlabelled}

-- zeros at a release's end make no difference
zeros : (k : ℕ) (x : List ℕ) → padded compare 0 (replicate k 0) x ≡ padded compare 0 [] x
zeros zero x = refl
zeros (suc k) [] = zeros k []
zeros (suc k) (y ∷ x) = ap (also (compare 0 y)) (zeros k x)

-- two lists that compare alike with all others
abbrev Alike : List ℕ → List ℕ → Type 0
Alike l m = (x : List ℕ) → padded compare 0 l x ≡ padded compare 0 m x

behind : (a : ℕ) (l m : List ℕ) → Alike l m → Alike (a ∷ l) (a ∷ m)
behind a l m same [] = ap (also (compare a 0)) (same [])
behind a l m same (y ∷ x) = ap (also (compare a y)) (same x)

alike_both : (l m l' m' : List ℕ) → Alike l m → Alike l' m' → padded compare 0 l l' ≡ padded compare 0 m m'
alike_both l m l' m' same same' =
    let turn = (padded_laws number_laws 0).turn in
    same l' ∙ turn l' m ∙ ap flip (same' m) ∙ sym (turn m' m)

-- as many of the four numbers as are there compare as all four
filled_alike : (count a b c d : ℕ) → Filled count a b c d → Alike (take count (a ∷ b ∷ c ∷ d ∷ replicate 12 0)) (a ∷ b ∷ c ∷ d ∷ [])
filled_alike count a b c d (Filled.none n p q r t) x = rw (n, p, q, r, t) (sym (zeros 4 x))
filled_alike count a b c d (Filled.one n q r t) x = rw (n, q, r, t) (behind a [] (0 ∷ 0 ∷ 0 ∷ []) (λ y. sym (zeros 3 y)) x)
filled_alike count a b c d (Filled.two n r t) x =
    rw (n, r, t) (behind a (b ∷ []) (b ∷ 0 ∷ 0 ∷ []) (behind b [] (0 ∷ 0 ∷ []) (λ y. sym (zeros 2 y))) x)
filled_alike count a b c d (Filled.three n t) x =
    rw (n, t)
    (behind a (b ∷ c ∷ []) (b ∷ c ∷ 0 ∷ []) (behind b (c ∷ []) (c ∷ 0 ∷ []) (behind c [] (0 ∷ []) (λ y. sym (zeros 1 y)))) x)
filled_alike count a b c d (Filled.four n) x = rw n

abbrev there : Plain → List ℕ
there v = take v.count (v.first ∷ v.second ∷ v.third ∷ v.fourth ∷ replicate 12 0)

abbrev all_four : Plain → List ℕ
all_four v = v.first ∷ v.second ∷ v.third ∷ v.fourth ∷ []

plain_alike : (v : Plain) → FilledPlain v → Alike (there v) (all_four v)
plain_alike v f = filled_alike v.count v.first v.second v.third v.fourth f

numbers_alike : (v w : Plain) → FilledPlain v → FilledPlain w → padded compare 0 (there v) (there w) ≡ compare_numbers v w
unfolding compare_numbers
numbers_alike v w f g =
    alike_both (there v) (all_four v) (there w) (all_four w) (plain_alike v f) (plain_alike w g)
    ∙ ap (λ o. also (compare v.first w.first) (also (compare v.second w.second) (also (compare v.third w.third) o)))
    (also_eq (compare v.fourth w.fourth))

pub plains_compare : (v w : Plain) → FilledPlain v → FilledPlain w →
    compare_plains v w ≡ compare_public (value_of [] (whole_version v)) (value_of [] (whole_version w))
unfolding compare_plains compare_public compare_release value_of
plains_compare v w f g = ap (λ o. also o (compare_key (key_of v.pre v.post v.dev) (key_of w.pre w.post w.dev))) (sym (numbers_alike v w f g))

-- they have no label
pub plains_order : (s t : List ℕ) (v w : Plain) → FilledPlain v → FilledPlain w →
    compare_values (value_of s (whole_version v)) (value_of t (whole_version w)) ≡ compare_plains v w
unfolding value_of listed
plains_order s t v w f g =
    unlabelled (value_of s (whole_version v)) (value_of t (whole_version w)) refl refl
    ∙ sym (plains_compare v w f g ∙ label_blind s t (whole_version v) (whole_version w))

-- r is what the numbers say, q what comes of it and of the keys
pub plains_compared : (v w : Plain) (r q : Order) {P : Type 0} → r ≡ name_of (compare_numbers v w) →
    (P → q ≡ name_of (compare_key (key_of v.pre v.post v.dev) (key_of w.pre w.post w.dev))) → MatchOrdering r (q ≡ Less) P (q ≡ Greater) →
    q ≡ name_of (compare_plains v w)
unfolding compare_plains
plains_compared v w r q e f h = then_is (compare_numbers v w) (compare_key (key_of v.pre v.post v.dev) (key_of w.pre w.post w.dev)) r q e f h

-- the four numbers as a tuple
pub four_is : (v w : Plain) (r : Order) →
    r ≡ ordering_then (ordering_then (ordering_then (nat_cmp v.first w.first) (nat_cmp v.second w.second)) (nat_cmp v.third w.third)) (nat_cmp v.fourth w.fourth) →
    r ≡ name_of (compare_numbers v w)
unfolding compare_numbers
four_is v w r e =
    e
    ∙ rw (number_named v.first w.first, number_named v.second w.second, number_named v.third w.third, number_named v.fourth w.fourth)
    (four_named (compare v.first w.first) (compare v.second w.second) (compare v.third w.third) (compare v.fourth w.fourth))
