-- Comparisons, and how they are made of others. The order of a record is `lex (by field₁ ..) (lex (by field₂ ..) ..)`.
-- That each keeps the laws of an order is proved in proofs/. Definitions only; assumes nothing.
use Rattle.std.specs.Prelude.{List, [], ◌∷◌, Option, None, Some}
use Rattle.order.specs.Ordering.{Ordering, lt, eq, gt, also}

-- a comparison gives an answer for any two things of a type
abbrev pub Comparison : Type 0 → Type 0
Comparison A = A → A → Ordering

-- two things compare as what a function gives of them
abbrev pub by : {A B : Type 0} → (A → B) → Comparison B → Comparison A
by f cmp a b = cmp (f a) (f b)

module _ {A : Type 0} where
  -- by the first comparison, and where it finds no difference by the second
  abbrev pub lex : Comparison A → Comparison A → Comparison A
  lex first second a b = also (first a b) (second a b)

  -- lists element by element, a proper beginning before all that goes on
  abbrev pub list : Comparison A → Comparison (List A)
  list cmp [] [] = eq
  list cmp [] (y ∷ ys) = lt
  list cmp (x ∷ xs) [] = gt
  list cmp (x ∷ xs) (y ∷ ys) = also (cmp x y) (list cmp xs ys)

  -- lists element by element, the shorter continued with d
  abbrev pub padded : Comparison A → A → Comparison (List A)
  padded cmp d [] [] = eq
  padded cmp d [] (y ∷ ys) = also (cmp d y) (padded cmp d [] ys)
  padded cmp d (x ∷ xs) [] = also (cmp x d) (padded cmp d xs [])
  padded cmp d (x ∷ xs) (y ∷ ys) = also (cmp x y) (padded cmp d xs ys)

  -- what is missing is below all that is there
  abbrev pub option : Comparison A → Comparison (Option A)
  option cmp None None = eq
  option cmp None (Some y) = lt
  option cmp (Some x) None = gt
  option cmp (Some x) (Some y) = cmp x y

  -- the first element of a list that is continued with d
  abbrev pub head_or : A → List A → A
  head_or d [] = d
  head_or d (x ∷ xs) = x
