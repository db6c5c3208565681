-- A table's rule, proved at all of its entries by one test that antt computes from entry to entry.
-- Assumes nothing.
use mathlib.Core.Path.{◌∙◌, subst, sym}
use mathlib.Core.Bool.{Bool, true, false, cond}
use mathlib.Core.List.{List, [], ◌∷◌}
use Prim.Native.Nat.{ℕ, zero, suc, ◌+◌, ◌<◌}
use native.Mathlib.Nat.{add-zero, zero-add, add-suc, suc-add, le_of_suc-le-suc, not-suc-le-zero}
use lib.Dec.{T}
use lib.ListN.{length, get_or}

pub both_left : (a b : Bool) → T (cond a b false) → T a
both_left true b t = tt
both_left false b t = t

pub both_right : (a b : Bool) → T (cond a b false) → T b
both_right true b t = t
both_right false b t = absurd t

-- the test passes at each entry, given its place counted from i
abbrev pub every : (ℕ → ℕ → Bool) → ℕ → List ℕ → Bool
every test i [] = true
every test i (x ∷ xs) = cond (test i x) (every test (suc i) xs) false

from : (test : ℕ → ℕ → Bool) (xs : List ℕ) (i : ℕ) → T (every test i xs) → (k : ℕ) → k < length xs → T (test (i + k) (get_or xs k 0))
from test [] i t k h = absurd (not-suc-le-zero h)
from test (x ∷ xs) i t zero h =
    subst (λ (m : ℕ). T (test m x)) (sym (add-zero i)) (both_left (test i x) (every test (suc i) xs) t)
from test (x ∷ xs) i t (suc k) h =
    subst (λ (m : ℕ). T (test m (get_or xs k 0))) (suc-add i k ∙ sym (add-suc i k))
    (from test xs (suc i) (both_right (test i x) (every test (suc i) xs) t) k (le_of_suc-le-suc h))

pub at : (test : ℕ → ℕ → Bool) (xs : List ℕ) → T (every test 0 xs) → (k : ℕ) → k < length xs → T (test k (get_or xs k 0))
at test xs t k h = subst (λ (m : ℕ). T (test m (get_or xs k 0))) (zero-add k) (from test xs 0 t k h)
