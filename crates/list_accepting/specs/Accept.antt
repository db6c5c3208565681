-- What one clause accepts, and what a list does. Labels are ignored: `compare_public` does not see them, nor does a match.
use Rattle.answers.specs.declared.RefusedInput.TheVariants.{First, Second}
use Rattle.answers.specs.declared.RefusedInput.{RefusedInput}
use Rattle.std.specs.Prelude.{Bool, true, false, not, ◌&&◌, List, [], ◌∷◌, ℕ, Result, Ok, Err}
use Rattle.answers.specs.declared.Refusal.{Refusal}
use Rattle.order.specs.Ordering.{is_le, compare_is_eq, is_ge, is_lt, is_gt}
use Rattle.answers.specs.Refusal.{refusal}
use Rattle.answers.specs.YesNo.{yes_or_no}
use Rattle.version_reading.specs.declared.text.Verdict.{Verdict}
use Rattle.version_reading.specs.declared.text.Verdict.TheVariants.{Accepted, Refused}
use Rattle.version_reading.specs.Reading.{version_of}
use Rattle.version_reading.specs.Value.{Value, value_of, value_in}
use Rattle.version_order.specs.Versions.{compare_public}
use Rattle.version_prefix.specs.Prefix.{prefix_matches, shorter}
use Rattle.list_clauses.specs.declared.operator.Operator.{Operator}
use Rattle.list_clauses.specs.declared.operator.Operator.TheVariants.{Equal, NotEqual, Compatible, AtMost, AtLeast, Below, Above}
use Rattle.list_clauses.specs.declared.clause.Clause.{Clause}
use Rattle.list_clauses.specs.List.{Listing, refused, clauses, list_of}

-- `==V`: equal in order; `==V.*`: a match
abbrev pub equals : Bool → Value → Value → Bool
equals false v w = compare_is_eq (compare_public w v)
equals true v w = prefix_matches v w

-- an operator, whether a wildcard follows, its version v, and the candidate w
unfoldable pub holds : Operator → Bool → Value → Value → Bool
holds Equal wildcard v w = equals wildcard v w
holds NotEqual wildcard v w = not (equals wildcard v w)
holds Compatible wildcard v w = is_ge (compare_public w v) && prefix_matches (shorter v) w
holds AtMost wildcard v w = is_le (compare_public w v)
holds AtLeast wildcard v w = is_ge (compare_public w v)
holds Below wildcard v w = is_lt (compare_public w v)
holds Above wildcard v w = is_gt (compare_public w v)

abbrev pub clause_value : Clause → Value
clause_value c = value_of [] c.version

abbrev pub clause_accepts : Clause → Value → Bool
clause_accepts c w = holds c.operator c.wildcard (clause_value c) w

-- each clause by itself
abbrev pub all_accept : List Clause → Value → Bool
all_accept [] w = true
all_accept (c ∷ cs) w = clause_accepts c w && all_accept cs w

-- what a list says of a version that was read
abbrev pub told_by : Listing → Value → Result Bool Refusal
told_by (refused number place) w = Err (refusal number place)
told_by (clauses cs) w = Ok (all_accept cs w)

-- the list is judged first
abbrev pub judged_by : Listing → Verdict → Value → Result Bool RefusedInput
judged_by (refused number place) verdict w = Err (First (refusal number place))
judged_by (clauses cs) (Refused refusal) w = Err (Second refusal)
judged_by (clauses cs) Accepted w = yes_or_no (all_accept cs w)

unfoldable pub accepted : List ℕ → List ℕ → Result Bool RefusedInput
accepted s t = judged_by (list_of s) (version_of t).verdict (value_in t)
