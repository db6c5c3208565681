-- The lines of a text that is there in part: up to its first line feed, or with none so far.
-- Assumes nothing.
use mathlib.Core.Path.{◌≡◌, refl, ap}
use mathlib.Core.Bool.{Bool, true, false, cond}
use mathlib.Core.List.{List, [], ◌∷◌, ◌++◌}
use Prim.Native.Nat.{ℕ, zero, suc, ◌+◌, ◌-◌, ◌≤◌, ◌<◌}
use native.Mathlib.Omega.{arith}
use lib.Dec.{eqb}
use lib.ListN.{length, take, drop}
use lib.Seq.{take-nil, drop-drop}
use Rattle.chars.specs.Scan.{index_after, index_of}
use Rattle.lines.specs.Window.{line_feed, line_length}
use Rattle.lines.specs.Run.{joined, lines_of}

-- what stands after the first line feed
abbrev pub after_feed : List ℕ → List ℕ
after_feed [] = []
after_feed (b ∷ text) = cond (eqb b line_feed) text (after_feed text)

-- a byte b in front of a text t whose first line feed stands at k, by whether b is one
module _ (b k : ℕ) (t u : List ℕ) where
  one_whole : (feed : Bool) → index_after feed k < suc (length t) →
      (k < length t → lines_of (t ++ u) ≡ take k t ∷ lines_of (drop (k + 1) t ++ u)) →
      cond feed ([] ∷ lines_of (t ++ u)) (joined b (lines_of (t ++ u)))
      ≡ take (index_after feed k) (b ∷ t) ∷ lines_of (drop (index_after feed k + 1) (b ∷ t) ++ u)
  unfolding index_after
  one_whole true h more = refl
  one_whole false h more = let next : suc k + 1 ≡ suc (k + 1) = omega arith in rw next (ap (joined b) (more (omega arith)))

  one_inside : (feed : Bool) → index_after feed k < suc (length t) → (k < length t → after_feed (t ++ u) ≡ drop (k + 1) t ++ u) →
      cond feed (t ++ u) (after_feed (t ++ u)) ≡ drop (index_after feed k + 1) (b ∷ t) ++ u
  unfolding index_after
  one_inside true h more = refl
  one_inside false h more = let next : suc k + 1 ≡ suc (k + 1) = omega arith in rw next (more (omega arith))

  one_behind : (feed : Bool) → suc (length t) ≤ index_after feed k → (length t ≤ k → after_feed (t ++ u) ≡ after_feed u) →
      cond feed (t ++ u) (after_feed (t ++ u)) ≡ after_feed u
  unfolding index_after
  one_behind true h more = absurd (omega arith)
  one_behind false h more = more (omega arith)

  one_open : (lines : List (List ℕ)) (feed : Bool) → suc (length t) ≤ index_after feed k → (length t ≤ k → joined b (lines_of (t ++ u)) ≡ lines) →
      cond feed ([] ∷ lines_of (t ++ u)) (joined b (lines_of (t ++ u))) ≡ lines
  unfolding index_after
  one_open lines true h more = absurd (omega arith)
  one_open lines false h more = more (omega arith)

-- a text with a line feed in it
pub whole_line : (t u : List ℕ) → line_length t < length t → lines_of (t ++ u) ≡ take (line_length t) t ∷ lines_of (drop (line_length t + 1) t ++ u)
unfolding lines_of index_of
whole_line [] u h = absurd (omega arith)
whole_line (b ∷ t) u h = one_whole b (index_of line_feed t) t u (eqb b line_feed) h (whole_line t u)

pub feed_inside : (t u : List ℕ) → line_length t < length t → after_feed (t ++ u) ≡ drop (line_length t + 1) t ++ u
unfolding index_of
feed_inside [] u h = absurd (omega arith)
feed_inside (b ∷ t) u h = one_inside b (index_of line_feed t) t u (eqb b line_feed) h (feed_inside t u)

-- a text with none
pub feed_behind : (t u : List ℕ) → length t ≤ line_length t → after_feed (t ++ u) ≡ after_feed u
unfolding index_of
feed_behind [] u h = refl
feed_behind (b ∷ t) u h = one_behind b (index_of line_feed t) t u (eqb b line_feed) h (feed_behind t u)

one_joined : (b c k : ℕ) (u : List ℕ) (feed : Bool) → joined c (lines_of u) ≡ (c ∷ take k u) ∷ lines_of (after_feed u) →
    joined b (cond feed ([] ∷ lines_of u) (joined c (lines_of u))) ≡ (b ∷ take (index_after feed k) (c ∷ u)) ∷ lines_of (cond feed u (after_feed u))
unfolding index_after
one_joined b c k u true e = refl
one_joined b c k u false e = ap (joined b) e

joined_line : (b : ℕ) (u : List ℕ) → joined b (lines_of u) ≡ (b ∷ take (line_length u) u) ∷ lines_of (after_feed u)
unfolding lines_of index_of
joined_line b [] = refl
joined_line b (c ∷ u) = one_joined b c (index_of line_feed u) u (eqb c line_feed) (joined_line c u)

open_joined : (b : ℕ) (t u : List ℕ) → length t ≤ line_length t → joined b (lines_of (t ++ u)) ≡ (b ∷ (t ++ take (line_length u) u)) ∷ lines_of (after_feed u)
unfolding lines_of index_of
open_joined b [] u h = joined_line b u
open_joined b (c ∷ t) u h =
    ap (joined b) (one_open c (index_of line_feed t) t u _ (eqb c line_feed) h (λ g. open_joined c t u g))

pub open_line : (t u : List ℕ) → 0 < length t → length t ≤ line_length t →
    lines_of (t ++ u) ≡ (t ++ take (line_length u) u) ∷ lines_of (after_feed u)
unfolding lines_of index_of
open_line [] u some h = absurd (omega arith)
open_line (b ∷ t) u some h = one_open b (index_of line_feed t) t u _ (eqb b line_feed) h (λ g. open_joined b t u g)

-- a line feed stands within its text
one_within : (feed : Bool) (k n : ℕ) → k ≤ n → index_after feed k ≤ suc n
unfolding index_after
one_within true k n h = omega arith
one_within false k n h = omega arith

pub feed_within : (t : List ℕ) → line_length t ≤ length t
unfolding index_of
feed_within [] = omega arith
feed_within (b ∷ t) = one_within (eqb b line_feed) (index_of line_feed t) (length t) (feed_within t)

-- a part that begins later
rest_of_part : (n k : ℕ) (l : List ℕ) → take (n - k) (drop k l) ≡ drop k (take n l)
rest_of_part n zero l = let all : n - 0 ≡ n = omega arith in rw all
rest_of_part n (suc k) [] = rw (take-nil {A = ℕ} (n - suc k), take-nil {A = ℕ} n)
rest_of_part zero (suc k) (x ∷ l) = let none : 0 - suc k ≡ 0 = omega arith in rw none
rest_of_part (suc n) (suc k) (x ∷ l) = let same : suc n - suc k ≡ n - k = omega arith in rw same (rest_of_part n k l)

pub part_later : (start end k : ℕ) (l : List ℕ) → take (end - (start + k)) (drop (start + k) l) ≡ drop k (take (end - start) (drop start l))
part_later start end k l =
    let same : end - (start + k) ≡ end - start - k = omega arith in
    rw (same, ← drop-drop k start l) (rest_of_part (end - start) k (drop start l))
