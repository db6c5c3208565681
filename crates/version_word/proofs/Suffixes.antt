-- Of small versions, the kind and the suffix's number decide as the key does.
-- Assumes nothing.
use Rattle.std.specs.Prelude.{Option, None, Some}
use mathlib.Core.Path.{◌≡◌, refl, subst}
use Prim.Native.Nat.{ℕ, ◌<◌, compare}
use native.Mathlib.Omega.{arith}
use Rattle.chars.specs.declared.spelling.PreKind.{PreKind}
use Rattle.chars.specs.declared.spelling.PreKind.TheVariants.{Alpha, Beta, Rc}
use Rattle.order.specs.Ordering.{lt, gt, also}
use Rattle.order.proofs.Ordering.{also_eq}
use Rattle.version_order.specs.Key.{pre_kind, kind_of, key_of}
use Rattle.version_order.specs.Versions.{compare_key}
use Rattle.version_word.specs.Small.{only_suffix}

-- at most one part is there, and this is its number
pub data Only : Option (PreKind × ℕ) → Option ℕ → Option ℕ → ℕ → Type 0 where
  no_part : Only None None None 0
  only_dev : {n : ℕ} → Only None None (Some n) n
  only_post : {n : ℕ} → Only None (Some n) None n
  only_pre : {k : PreKind} {n : ℕ} → Only (Some (k, n)) None None n

renumber : {pre : Option (PreKind × ℕ)} {post dev : Option ℕ} {m n : ℕ} → Only pre post dev m → Some m ≡ Some n → Only pre post dev n
renumber {pre} {post} {dev} {m} {n} o e = let k : m ≡ n = cc in subst (λ (z : ℕ). Only pre post dev z) k o

never : {A : Type 0} {n : ℕ} → None ≡ Some n → A
never e = let z : ◌≡◌ {A = ℕ} 0 1 = cc in absurd (omega arith)

pub only : (pre : Option (PreKind × ℕ)) (post dev : Option ℕ) (n : ℕ) → only_suffix pre post dev ≡ Some n → Only pre post dev n
only (Some (k, m)) None None n e = renumber only_pre e
only (Some (k, m)) None (Some d) n e = never e
only (Some (k, m)) (Some p) dev n e = never e
only None (Some p) None n e = renumber only_post e
only None (Some p) (Some d) n e = never e
only None None (Some d) n e = renumber only_dev e
only None None None n e = renumber no_part e

-- a kind has room in three bits
pub kind_digit : (pre : Option (PreKind × ℕ)) (post dev : Option ℕ) → kind_of pre post dev < 8
kind_digit (Some (Alpha, n)) post dev = omega arith
kind_digit (Some (Beta, n)) post dev = omega arith
kind_digit (Some (Rc, n)) post dev = omega arith
kind_digit None (Some n) dev = omega arith
kind_digit None None (Some n) = omega arith
kind_digit None None None = omega arith

-- where the kind of a pre-release stands among the others
record Stands (k : PreKind) : Type 0 where
  above_dev : compare (pre_kind k) 1 ≡ gt
  below_none : compare (pre_kind k) 5 ≡ lt
  below_post : compare (pre_kind k) 6 ≡ lt
  dev_below : compare 1 (pre_kind k) ≡ lt
  none_above : compare 5 (pre_kind k) ≡ gt
  post_above : compare 6 (pre_kind k) ≡ gt

stands : (k : PreKind) → Stands k
stands Alpha = record { above_dev = refl; below_none = refl; below_post = refl; dev_below = refl; none_above = refl; post_above = refl }
stands Beta = record { above_dev = refl; below_none = refl; below_post = refl; dev_below = refl; none_above = refl; post_above = refl }
stands Rc = record { above_dev = refl; below_none = refl; below_post = refl; dev_below = refl; none_above = refl; post_above = refl }

pub key_decides : {a : Option (PreKind × ℕ)} {b c : Option ℕ} {s : ℕ} {a' : Option (PreKind × ℕ)} {b' c' : Option ℕ} {s' : ℕ} → Only a b c s → Only a' b' c' s' →
    compare_key (key_of a b c) (key_of a' b' c') ≡ also (compare (kind_of a b c) (kind_of a' b' c')) (compare s s')
unfolding compare_key
key_decides no_part no_part = refl
key_decides no_part only_dev = refl
key_decides no_part only_post = refl
key_decides no_part (only_pre {k = k}) = rw (stands k).none_above
key_decides only_dev no_part = refl
key_decides only_dev only_dev = refl
key_decides only_dev only_post = refl
key_decides only_dev (only_pre {k = k}) = rw (stands k).dev_below
key_decides only_post no_part = refl
key_decides only_post only_dev = refl
key_decides (only_post {n = n}) (only_post {n = m}) = also_eq (compare n m)
key_decides only_post (only_pre {k = k}) = rw (stands k).post_above
key_decides (only_pre {k = k}) no_part = rw (stands k).below_none
key_decides (only_pre {k = k}) only_dev = rw (stands k).above_dev
key_decides (only_pre {k = k}) only_post = rw (stands k).below_post
key_decides (only_pre {k = k} {n = n}) (only_pre {k = l} {n = m}) = rw (also_eq (compare n m))
