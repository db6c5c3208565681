-- The ranges of a list with numbers for ends: 0 below all, 1 above all, then the two ends of each clause in turn.
use Rattle.std.specs.Prelude.{Bool, List, [], ◌∷◌, ℕ, ◌+◌}
use Rattle.ranges.specs.Range.{Range}
use Rattle.ranges.specs.Shape.{Shape}
use Rattle.ranges.specs.Compile.{table}
use Rattle.list_clauses.specs.declared.clause.Clause.{Clause}
use Rattle.list_clauses.specs.List.{Listing, refused, clauses, list_of}
use Rattle.list_ends.specs.Cut.{le_place}
use Rattle.list_ends.specs.Ends.{hollow}
use Rattle.list_ends.specs.Shape.{shaped}
use Rattle.list_ends.specs.Number.{place_number}

-- ends compare as the places that they stand for
abbrev pub le_number : List ℕ → ℕ → ℕ → Bool
le_number s a b = le_place (place_number s a) (place_number s b)

-- the shapes of clauses whose ends are numbered from n on
abbrev pub shapes_from : ℕ → List Clause → List (Shape ℕ)
shapes_from n [] = []
shapes_from n (c ∷ cs) = shaped (hollow c.operator) n (n + 1) ∷ shapes_from (n + 2) cs

abbrev pub folded_by : List ℕ → List Clause → List (Range ℕ)
folded_by s cs = table (le_number s) 0 1 (shapes_from 2 cs)

-- a refused list has none
abbrev pub numbered_by : List ℕ → Listing → List (Range ℕ)
numbered_by s (refused number place) = []
numbered_by s (clauses cs) = folded_by s cs

unfoldable pub numbered : List ℕ → List (Range ℕ)
numbered s = numbered_by s (list_of s)
