-- The prefix law on lists of numbers: those that begin with p are those from p up to, and not with, the next list of p's kind.
-- Assumes nothing.
use Rattle.std.specs.Prelude.{Option, None, Some}
use mathlib.Core.Path.{◌≡◌, refl, ◌∙◌, ap}
use mathlib.Core.Bool.{Bool, true, false, not, ◌&&◌, cond}
use mathlib.Core.List.{List, [], ◌∷◌, tail}
use Prim.Native.Nat.{ℕ, zero, suc, ◌≤◌, ◌<◌, compare}
use native.Mathlib.Omega.{arith}
use lib.Dec.{eqb, leb-zero}
use lib.ListN.{take}
use borrow.Author.Tests.{eqb-true}
use Rattle.order.specs.Ordering.{Ordering, lt, eq, gt, is_le, is_gt, also}
use Rattle.order.specs.Compare.{padded, head_or}
use Rattle.order.proofs.Ordering.{also_at_most}
use Rattle.order.proofs.Numbers.{number_laws, compare_means, compare_is}
use Rattle.order.proofs.Padded.{padded_step}
use Rattle.decimal.specs.Parse.{largest}
use Rattle.version_prefix.specs.Prefix.{begins, raised, next_release, Fit}

-- the list q, where there is one, is above l
abbrev pub above : Option (List ℕ) → List ℕ → Bool
above None l = true
above (Some q) l = is_gt (padded compare 0 q l)

-- no number at all is at most any list
none_least : (l : List ℕ) → is_le (padded compare 0 [] l) ≡ true
none_least [] = refl
none_least (y ∷ l) = also_at_most (compare 0 y) (padded compare 0 [] l) (none_least l) ∙ leb-zero y

head_held : (l : List ℕ) → Fit l → head_or 0 l ≤ largest
head_held [] a = omega arith
head_held (y ∷ l) a = a.0

tail_held : (l : List ℕ) → Fit l → Fit (tail l)
tail_held [] a = tt
tail_held (y ∷ l) a = a.1

-- the number x against the first number of l; n is what the numbers after x become
module _ (x : ℕ) (l : List ℕ) where
  step : (q : List ℕ) → padded compare 0 (x ∷ q) l ≡ also (compare x (head_or 0 l)) (padded compare 0 q (tail l))
  step q = padded_step number_laws 0 (x ∷ q) l

  -- the same number: the numbers after decide
  pub kept : (n : Option (List ℕ)) → compare x (head_or 0 l) ≡ eq → above (raised x n) l ≡ above n (tail l)
  kept (Some q) e = rw (step q, e)
  kept None e = go (eqb x largest)
    where
      more : x ≡ head_or 0 l
      more = rw e at (compare_means x (head_or 0 l))

      go : (b : Bool) → above (cond b None (Some (suc x ∷ []))) l ≡ true
      go true = refl
      go false = rw (padded_step number_laws 0 (suc x ∷ []) l, compare_is gt (suc x) (head_or 0 l) (omega (arith, more)))

  -- a smaller number: all that begins with it lies below l
  pub passed : (n : Option (List ℕ)) → head_or 0 l ≤ largest → compare x (head_or 0 l) ≡ lt → above (raised x n) l ≡ false
  passed (Some q) h e = rw (step q, e)
  passed None h e = go (eqb x largest) refl
    where
      less : x < head_or 0 l
      less = rw e at (compare_means x (head_or 0 l))

      next : (o : Ordering) → compare (suc x) (head_or 0 l) ≡ o → is_gt (also o (padded compare 0 [] (tail l))) ≡ false
      next lt f = refl
      next eq f = ap not (none_least (tail l))
      next gt f = let k : head_or 0 l < suc x = rw f at (compare_means (suc x) (head_or 0 l)) in absurd (omega (arith, less))

      go : (b : Bool) → eqb x largest ≡ b → above (cond b None (Some (suc x ∷ []))) l ≡ false
      go true f = let k : x ≡ largest = eqb-true x largest f in absurd (omega (arith, less))
      go false f = rw (padded_step number_laws 0 (suc x ∷ []) l) (next (compare (suc x) (head_or 0 l)) refl)

pub between : (p l : List ℕ) → Fit l → begins p l ≡ is_le (padded compare 0 p l) && above (next_release p) l
between [] l a = rw (none_least l)
between (x ∷ p) l a = rw (step x l p) (go (compare x y) refl (between p (tail l) (tail_held l a)))
  where
    y : ℕ
    y = head_or 0 l

    rest : Ordering
    rest = padded compare 0 p (tail l)

    go : (o : Ordering) → compare x y ≡ o → begins p (tail l) ≡ is_le rest && above (next_release p) (tail l) →
        eqb x y && begins p (tail l) ≡ is_le (also (compare x y) rest) && above (next_release (x ∷ p)) l
    go lt e ih = rw (e, passed x l (next_release p) (head_held l a) e)
    go eq e ih = rw (e, kept x l (next_release p) e) ih
    go gt e ih = rw e

-- what follows a list is above it
pub next_above : (p : List ℕ) → above (next_release p) p ≡ true
next_above [] = refl
next_above (x ∷ p) = kept x (x ∷ p) (next_release p) (compare_is eq x x refl) ∙ next_above p

-- the first numbers of a list are at most the list
pub beginning_least : (count : ℕ) (l : List ℕ) → is_le (padded compare 0 (take count l) l) ≡ true
beginning_least zero l = none_least l
beginning_least (suc count) [] = refl
beginning_least (suc count) (x ∷ l) = rw (compare_is eq x x refl) (beginning_least count l)
