-- The ways of `compare_lowered`: two texts in lower case, after the first n bytes of each.
-- Assumes nothing.
use Rattle.std.proofs.Common.{◌≡◌, ℕ, ◌+◌, ◌-◌, ◌≤◌, ◌<◌, List, [], ◌∷◌, length, get_or, drop, min, arith, length-drop}
use Prim.Native.Nat.{compare}
use Rattle.std.proofs.lemmas.List.{drop_more}
use Rattle.chars.specs.Case.{lower_of, lowered}
use Rattle.order.specs.Ordering.{Ordering, lt, eq, gt, also}
use Rattle.order.specs.Compare.{list}
use Rattle.order.specs.Answer.{name_of}
use Rattle.std.specs.declared.cmp.Ordering.{Ordering as Order}
use Rattle.order.proofs.Ordering.{also_decided}
use Rattle.order.proofs.Numbers.{compare_is, compare_means}

-- how two texts compare in lower case
abbrev pub texts : List ℕ → List ℕ → Ordering
texts a b = list compare (lowered a) (lowered b)

-- no difference was found in the first n bytes
module _ (a b : List ℕ) (n both : ℕ) (size : both ≡ min (length a) (length b)) (rest : texts (drop n a) (drop n b) ≡ texts a b) where
  -- x and y are the bytes there, in lower case
  module _ (x y : ℕ) (p : x ≡ lower_of (get_or a n 0)) (q : y ≡ lower_of (get_or b n 0)) (h : n < both) where
    turn : also (compare x y) (texts (drop (n + 1) a) (drop (n + 1) b)) ≡ texts a b
    unfolding lowered
    turn = rw (p, q) (rw (drop_more a n 0 (omega arith), drop_more b n 0 (omega arith)) at rest)

    pub bytes_differ : (r : Order) → r ≡ name_of (compare x y) → (x ≡ y → ⊥) → r ≡ name_of (texts a b)
    bytes_differ r e f = rw (e, ← turn, also_decided (compare x y) _ (λ z. f (rw z at (compare_means x y))))

    pub bytes_agree : x ≡ y → texts (drop (n + 1) a) (drop (n + 1) b) ≡ texts a b
    bytes_agree e = rw (compare_is eq x y e) at turn

  pub bytes_end : (r : Order) → r ≡ name_of (compare (length a) (length b)) → n ≤ both → both ≤ n → r ≡ name_of (texts a b)
  unfolding lowered
  bytes_end r e h k = rw (e, ← rest, go (drop n a) (drop n b) (length-drop n a) (length-drop n b))
    where
      go : (x y : List ℕ) → length x ≡ length a - n → length y ≡ length b - n → compare (length a) (length b) ≡ texts x y
      go [] [] p q = compare_is eq (length a) (length b) (omega arith)
      go [] (c ∷ y) p q = compare_is lt (length a) (length b) (omega arith)
      go (c ∷ x) [] p q = compare_is gt (length a) (length b) (omega arith)
      go (c ∷ x) (d ∷ y) p q = absurd (omega arith)
