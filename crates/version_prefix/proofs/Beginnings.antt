-- The ways of the functions that match a prefix.
-- Assumes nothing.
use Rattle.std.proofs.Common.{◌≡◌, refl, sym, ap, Bool, true, false, ◌&&◌, List, [], ◌∷◌, ◌++◌, ℕ, zero, suc, ◌+◌, ◌-◌, ◌≤◌, ◌<◌, add-one, arith, length, get_or, take, drop, replicate}
use Prim.Native.Nat.{min}
use native.Mathlib.Nat.{le_refl, zero-min, min-zero, suc-min-suc}
use lib.Dec.{eqb}
use lib.ListN.{length-take, drop_of_length-le}
use lib.Seq.{drop-cons, take-nil, take-take}
use borrow.Author.Tests.{eq-eqb, ne_eqb}
use Rattle.order.proofs.Padded.{head_of_drop, tail_of_drop}
use Rattle.version_parts.specs.declared.fields.Version.{Version}
use Rattle.version_reading.specs.Value.{value_of}
use Rattle.version_prefix.specs.Prefix.{begins, prefix_matches, cut_to, shorter}
use Rattle.version_compare.proofs.Counts.{counted}

-- zeros that continue the numbers make no difference
zeros_begin : (p : List ℕ) (k : ℕ) → begins p (replicate k 0) ≡ begins p []
zeros_begin [] k = refl
zeros_begin (x ∷ p) zero = refl
zeros_begin (x ∷ p) (suc k) = ap (◌&&◌ (eqb x 0)) (zeros_begin p k)

pub begins_continued : (p l : List ℕ) (k : ℕ) → begins p (l ++ replicate k 0) ≡ begins p l
begins_continued [] l k = refl
begins_continued (x ∷ p) [] k = zeros_begin (x ∷ p) k
begins_continued (x ∷ p) (y ∷ l) k = ap (◌&&◌ (eqb x y)) (begins_continued p l k)

-- nor does what follows as many numbers as the prefix has
pub begins_front : (p l m : List ℕ) → length p ≤ length l → begins p (l ++ m) ≡ begins p l
begins_front [] l m h = refl
begins_front (x ∷ p) [] m h = absurd (omega arith)
begins_front (x ∷ p) (y ∷ l) m h = ap (◌&&◌ (eqb x y)) (begins_front p l m (omega arith))

-- at place i of the loop no difference was found before it
module _ (p l : List ℕ) (i : ℕ) (rest : begins (drop i p) (drop i l) ≡ begins p l) where
  pub begins_end : length p ≤ i → true ≡ begins p l
  begins_end h = rw (drop_of_length-le p h) at rest

  -- x is the number there
  module _ (x : ℕ) (e : x ≡ get_or l i 0) (some : i < length p) where
    here : eqb (get_or p i 0) x && begins (drop (suc i) p) (drop (suc i) l) ≡ begins p l
    here = rw (drop-cons p i 0 some, head_of_drop 0 l i, tail_of_drop l i, ← e) at rest

    pub begins_not : (get_or p i 0 ≡ x → ⊥) → false ≡ begins p l
    begins_not f = rw (ne_eqb _ _ f) at here

    pub begins_on : get_or p i 0 ≡ x → begins (drop (i + 1) p) (drop (i + 1) l) ≡ begins p l
    begins_on f = rw (add-one i) (rw (eq-eqb _ _ f) at here)

take_both : (m n : ℕ) (l : List ℕ) → take (min m n) l ≡ take n (take m l)
take_both zero n l = rw (zero-min n) (sym (take-nil n))
take_both (suc m) zero l = rw (min-zero (suc m))
take_both (suc m) (suc n) [] = take-nil (min (suc m) (suc n))
take_both (suc m) (suc n) (x ∷ l) = rw (suc-min-suc m n, take_both m n l)

-- m numbers of the array p, and n of the array l
pub parts_begin : (p l : List ℕ) (len count few m size n : ℕ) (r : Bool) → length p ≡ 16 → length l ≡ 16 →
    few ≡ min len count → m ≡ min few 16 → n ≡ min size 16 → r ≡ begins (take m p) (take n l) → r ≡ begins (take count (take len p)) (take size l)
parts_begin p l len count few m size n r s t e f g h =
    rw (← take_both len count p, ← e, ← counted p few m s f, ← counted l size n t g) h

-- w against the first `count` numbers of v's release
module _ (v w : Version) (count : ℕ) where
  pub epochs_differ : (v.epoch ≡ w.epoch → ⊥) → false ≡ prefix_matches (cut_to count (value_of [] v)) (value_of [] w)
  unfolding value_of prefix_matches
  epochs_differ f = rw (ne_eqb _ _ f)

  pub epochs_agree : (r : Bool) → v.epoch ≡ w.epoch →
      r ≡ begins (take count (take v.release.len v.release.numbers)) (take w.release.len w.release.numbers) →
      r ≡ prefix_matches (cut_to count (value_of [] v)) (value_of [] w)
  unfolding value_of prefix_matches
  epochs_agree r e f = rw (eq-eqb _ _ e) f

-- the whole release, and the release less its last number
pub whole_matches : (v w : Version) (r : Bool) → r ≡ prefix_matches (cut_to v.release.len (value_of [] v)) (value_of [] w) →
    r ≡ prefix_matches (value_of [] v) (value_of [] w)
unfolding value_of prefix_matches
whole_matches v w r e = rw (take-take v.release.len v.release.len v.release.numbers (le_refl _)) at e

pub shorter_matches : (v w : Version) (count : ℕ) (r : Bool) → count ≡ length (take v.release.len v.release.numbers) - 1 →
    r ≡ prefix_matches (cut_to count (value_of [] v)) (value_of [] w) → r ≡ prefix_matches (shorter (value_of [] v)) (value_of [] w)
unfolding value_of
shorter_matches v w count r e f = rw e at f

-- the first `len` of the array's numbers count
module _ (l : List ℕ) (len n : ℕ) (size : length l ≡ 16) (e : n ≡ min len 16) where
  pub none_but_last : n ≡ 0 → 0 ≡ length (take len l) - 1
  none_but_last f = omega (arith, length-take len l, size)

  pub some_but_last : n - 1 ≡ length (take len l) - 1
  some_but_last = omega (arith, length-take len l, size)
