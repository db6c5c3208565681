-- The ends of a list by number: 0 below all, 1 above all, then the two ends of each clause in turn.
use Rattle.answers.specs.declared.Refusal.{Refusal}
use Rattle.std.specs.Prelude.{false, List, ℕ, zero, suc, Result, Ok, Err}
use Rattle.ranges.specs.Cut.{bot, top}
use Rattle.version_parts.specs.Fields.{no_version}
use Rattle.list_clauses.specs.declared.operator.Operator.TheVariants.{Equal}
use Rattle.list_clauses.specs.declared.clause.Clause.{Clause}
use Rattle.list_clauses.specs.Step.{part_at, clause_in}
use Rattle.list_ends.specs.Cut.{Place}
use Rattle.list_ends.specs.Ends.{first_end, second_end}

-- where no clause was read
abbrev pub blank_clause : Clause
blank_clause = record { operator = Equal; wildcard = false; version = no_version }

-- an end of a clause; one that is refused has those of the blank version
abbrev pub end_of : (Clause → Place) → Result Clause Refusal → Place
end_of end (Ok c) = end c
end_of end (Err x) = end blank_clause

-- the ends from the clause on that starts there
unfoldable pub place_from : List ℕ → ℕ → ℕ → Place
place_from s start zero = end_of first_end (clause_in s start)
place_from s start (suc zero) = end_of second_end (clause_in s start)
place_from s start (suc (suc n)) = place_from s (part_at s start).next n

unfoldable pub place_number : List ℕ → ℕ → Place
place_number s zero = bot
place_number s (suc zero) = top
place_number s (suc (suc n)) = place_from s 0 n
