-- The shapes of a list's first clauses with numbers for ends, and their ranges: what they stand for, how many there are, which numbers they
-- have, and one clause more.
-- Assumes nothing.
use Rattle.answers.specs.declared.Refusal.{Refusal}
use Rattle.std.specs.Prelude.{Result, Ok, Err}
use mathlib.Core.Path.{◌≡◌, refl, sym, ◌∙◌, ap}
use mathlib.Core.Bool.{Bool, true, false}
use mathlib.Core.List.{List, [], ◌∷◌, ◌++◌, map, map-append}
use Prim.Native.Nat.{ℕ, zero, suc, ◌+◌, ◌*◌, ◌≤◌, ◌<◌}
use native.Mathlib.Omega.{arith}
use lib.ListN.{length, length-map, length-append}
use Rattle.order.specs.All.{All}
use Rattle.ranges.specs.Cut.{bot, top}
use Rattle.ranges.specs.Shape.{Shape}
use Rattle.ranges.specs.Map.{map_shape, map_range}
use Rattle.ranges.specs.Compile.{step, table}
use Rattle.ranges.proofs.Map.{table_map}
use Rattle.ranges.proofs.Grow.{compile_snoc}
use Rattle.ranges.proofs.Same.{Shaped, Between, table_in, step_same}
use Rattle.list_clauses.specs.declared.clause.Clause.{Clause}
use Rattle.list_clauses.specs.Step.{clause_in, read_there, start_at, first_clauses}
use Rattle.list_ends.specs.Cut.{le_place}
use Rattle.list_ends.specs.Ends.{first_end, second_end, hollow}
use Rattle.list_ends.specs.Shape.{shaped, clause_shape, ranges_of}
use Rattle.list_ends.specs.Number.{end_of, place_from, place_number}
use Rattle.list_ends.proofs.Tables.{ranges_count, negated_most}
use Rattle.list_fold.specs.Row.{le_row, Rows}
use Rattle.list_fold.specs.Ranges.{range}
use Rattle.list_fold.specs.Numbered.{le_number, shapes_from, folded_by}
use Rattle.list_fold.proofs.Stored.{rows_agree}

shaped_map : {P Q : Type 0} (f : P → Q) (b : Bool) (lo hi : P) → map_shape f (shaped b lo hi) ≡ shaped b (f lo) (f hi)
shaped_map f false lo hi = refl
shaped_map f true lo hi = refl

shaped_in : (Q : ℕ → Type 0) (b : Bool) (lo hi : ℕ) → Q lo → Q hi → Shaped Q (shaped b lo hi)
shaped_in Q false lo hi p q = (p, q)
shaped_in Q true lo hi p q = (q, p)

-- one clause more
shapes_more : (n : ℕ) (cs : List Clause) (c : Clause)
    → shapes_from n (cs ++ (c ∷ [])) ≡ shapes_from n cs ++ (shaped (hollow c.operator) (n + 2 * length cs) (n + 2 * length cs + 1) ∷ [])
shapes_more n [] c = let same : n + 2 * 0 ≡ n = omega arith in rw same
shapes_more n (d ∷ cs) c =
    let same : n + 2 * length (d ∷ cs) ≡ n + 2 + 2 * length cs = omega arith in
    rw same (ap (λ (l : List (Shape ℕ)). shaped (hollow d.operator) n (n + 1) ∷ l) (shapes_more (n + 2) cs c))

-- all ends of the shapes have numbers below
shapes_in : (m n : ℕ) (cs : List Clause) → n + 2 * length cs ≤ m → All (Shaped (λ k. k < m)) (shapes_from n cs)
shapes_in m n [] h = tt
shapes_in m n (c ∷ cs) h =
    (shaped_in (λ k. k < m) (hollow c.operator) n (n + 1) (omega arith) (omega arith), shapes_in m (n + 2) cs (omega arith))

-- as many clauses were read as one more than n: so were n, and the one after them
record Reached (s : List ℕ) (n : ℕ) : Type 0 where
  before : length (first_clauses s n) ≡ n
  clause : Clause
  is : clause_in s (start_at s n) ≡ Ok clause

there_most : (r : Result Clause Refusal) → length (read_there r) ≤ 1
there_most (Ok c) = omega arith
there_most (Err x) = omega arith

first_most : (s : List ℕ) (n : ℕ) → length (first_clauses s n) ≤ n
unfolding first_clauses
first_most s zero = omega arith
first_most s (suc n) =
    let c = clause_in s (start_at s n) in
    omega (arith, length-append (first_clauses s n) (read_there c), there_most c, first_most s n)

reached : (s : List ℕ) (n : ℕ) → length (first_clauses s (suc n)) ≡ suc n → Reached s n
unfolding first_clauses
reached s n all = by (clause_in s (start_at s n)) refl
  where
    by : (r : Result Clause Refusal) → clause_in s (start_at s n) ≡ r → Reached s n
    by (Ok c) e =
        let size : length (first_clauses s n ++ (c ∷ [])) ≡ suc n = rw e at all in
        record { before = omega (arith, length-append (first_clauses s n) (c ∷ [])); clause = c; is = e }
    by (Err x) e =
        let none : List Clause = [] in
        let size : length (first_clauses s n ++ none) ≡ suc n = rw e at all in
        absurd (omega (arith, length-append (first_clauses s n) none, first_most s n))

module _ (s : List ℕ) where
  -- the ends of the clause that has i before it
  places_on : (i n : ℕ) → place_from s 0 (2 * i + n) ≡ place_from s (start_at s i) n
  unfolding start_at place_from
  places_on zero n = let none : 2 * 0 + n ≡ n = omega arith in rw none
  places_on (suc i) n = let two : 2 * suc i + n ≡ 2 * i + suc (suc n) = omega arith in rw two (places_on i (suc (suc n)))

  pub first_number : (i : ℕ) → place_number s (2 * i + 2) ≡ end_of first_end (clause_in s (start_at s i))
  unfolding place_number place_from
  first_number i = let two : 2 * i + 2 ≡ suc (suc (2 * i + 0)) = omega arith in rw two (places_on i 0)

  pub second_number : (i : ℕ) → place_number s (suc (2 * i + 2)) ≡ end_of second_end (clause_in s (start_at s i))
  unfolding place_number place_from
  second_number i = let three : suc (2 * i + 2) ≡ suc (suc (2 * i + 1)) = omega arith in rw three (places_on i 1)

  shape_number : (i : ℕ) (c : Clause) (gap : Bool) → clause_in s (start_at s i) ≡ Ok c →
      map_shape (place_number s) (shaped gap (2 + 2 * i) (2 + 2 * i + 1)) ≡ shaped gap (first_end c) (second_end c)
  shape_number i c gap e =
      let one : 2 + 2 * i ≡ 2 * i + 2 = omega arith in
      let other : 2 * i + 2 + 1 ≡ suc (2 * i + 2) = omega arith in
      shaped_map (place_number s) gap (2 + 2 * i) (2 + 2 * i + 1) ∙ rw (one, other, first_number i, second_number i, e)

  -- the shapes stand for the clauses' own
  shapes_are : (n : ℕ) → length (first_clauses s n) ≡ n →
      map (map_shape (place_number s)) (shapes_from 2 (first_clauses s n)) ≡ map clause_shape (first_clauses s n)
  unfolding first_clauses
  shapes_are zero all = refl
  shapes_are (suc n) all =
      let R : Reached s n = reached s n all in
      let c : Clause = R.clause in
      rw (
        R.is,
        shapes_more 2 (first_clauses s n) c,
        map-append (map_shape (place_number s)) (shapes_from 2 (first_clauses s n)) _,
        map-append clause_shape (first_clauses s n) (c ∷ []),
        shapes_are n R.before,
        R.before,
        shape_number n c (hollow c.operator) R.is,
      )

  module _ (n : ℕ) (all : length (first_clauses s n) ≡ n) where
    pub folded_places : map (map_range (place_number s)) (folded_by s (first_clauses s n)) ≡ ranges_of (first_clauses s n)
    unfolding ranges_of place_number
    folded_places =
        table_map (place_number s) (le_number s) le_place (λ x y. refl) 0 1 (shapes_from 2 (first_clauses s n))
        ∙ ap (table le_place bot top) (shapes_are n all)

    pub folded_count : length (folded_by s (first_clauses s n)) ≤ suc n
    folded_count =
        let same : length (folded_by s (first_clauses s n)) ≡ length (ranges_of (first_clauses s n)) =
        sym (length-map (folded_by s (first_clauses s n)) (map_range (place_number s))) ∙ ap length folded_places in
        omega (arith, ranges_count (first_clauses s n), negated_most (first_clauses s n))

  -- the numbers of the ends are those of the clauses, and 0 and 1
  pub folded_in : (m : ℕ) (cs : List Clause) → 2 + 2 * length cs ≤ m → All (Between (λ k. k < m)) (folded_by s cs)
  folded_in m cs h =
      table_in (λ k. k < m) (le_number s) 0 1 (omega arith) (omega arith) (shapes_from 2 cs) (shapes_in m 2 cs h)

  module _ (n m : ℕ) (all : length (first_clauses s n) ≡ n) (rows : List ℕ) (R : Rows (place_number s) m rows) (h : 4 + 2 * n ≤ m) where
    -- a step by rows is one by places
    by_places : (gap : Bool) → step (le_row rows) 0 1 (shaped gap (2 * n + 2) (2 * n + 2 + 1)) (folded_by s (first_clauses s n))
        ≡ step (le_number s) 0 1 (shaped gap (2 * n + 2) (2 * n + 2 + 1)) (folded_by s (first_clauses s n))
    by_places gap =
        step_same (λ k. k < m) (le_row rows) (le_number s) (rows_agree (place_number s) m rows R) 0 1 (omega arith) (omega arith)
        (shaped gap (2 * n + 2) (2 * n + 2 + 1)) (shaped_in (λ k. k < m) gap _ _ (omega arith) (omega arith))
        (folded_by s (first_clauses s n)) (folded_in m (first_clauses s n) (omega arith))

    -- the ranges with one clause more
    pub folded_more : (c : Clause) → clause_in s (start_at s n) ≡ Ok c →
        step (le_row rows) 0 1 (shaped (hollow c.operator) (2 * n + 2) (2 * n + 2 + 1)) (folded_by s (first_clauses s n))
        ≡ folded_by s (first_clauses s (suc n))
    unfolding first_clauses
    folded_more c e =
        let number : 2 + 2 * n ≡ 2 * n + 2 = omega arith in
        by_places (hollow c.operator)
        ∙ sym (rw (e, shapes_more 2 (first_clauses s n) c, all, number)
        (compile_snoc (le_number s) 0 1 (range 0 1 ∷ []) (shapes_from 2 (first_clauses s n)) _))
