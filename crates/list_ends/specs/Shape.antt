-- What each clause accepts, as a stretch between its two ends or all but one, and the ranges of a list.
use Rattle.std.specs.Prelude.{Bool, true, false, cond, List, [], ◌∷◌, map, ℕ, suc}
use Rattle.ranges.specs.Cut.{bot, top}
use Rattle.ranges.specs.Range.{Range}
use Rattle.ranges.specs.Shape.{Shape, span, hole}
use Rattle.ranges.specs.Compile.{table}
use Rattle.version_reading.specs.Value.{Value}
use Rattle.list_clauses.specs.declared.operator.Operator.{Operator}
use Rattle.list_clauses.specs.declared.clause.Clause.{Clause}
use Rattle.list_accepting.specs.Accept.{clause_value}
use Rattle.list_ends.specs.Cut.{Place, le_place}
use Rattle.list_ends.specs.Ends.{first_place, second_place, hollow}

-- what lies between two ends, or all but that
abbrev pub shaped : {P : Type 0} → Bool → P → P → Shape P
shaped false lo hi = span lo hi
shaped true lo hi = hole lo hi

-- an operator, whether a wildcard follows, and its version
abbrev pub shape_of : Operator → Bool → Value → Shape Place
shape_of o wildcard v = shaped (hollow o) (first_place o wildcard v) (second_place o wildcard v)

abbrev pub clause_shape : Clause → Shape Place
clause_shape c = shape_of c.operator c.wildcard (clause_value c)

-- the ranges of a list of clauses
unfoldable pub ranges_of : List Clause → List (Range Place)
ranges_of cs = table le_place bot top (map clause_shape cs)

-- how many of them have `!=`
abbrev pub negated : List Clause → ℕ
negated [] = 0
negated (c ∷ cs) = cond (hollow c.operator) (suc (negated cs)) (negated cs)
