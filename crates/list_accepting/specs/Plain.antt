-- Clauses whose pattern is a plain version. What is found is the clause that the rules read, wherever it starts.
use Rattle.list_clauses.specs.declared.operator.Operator.{Operator}
use Rattle.std.specs.Prelude.{◌≡◌, Bool, false, ◌&&◌, [], ℕ, Option, Some, None, Result, Ok, Err}
use Rattle.version_reading.specs.declared.plain.Plain.{Plain}
use Rattle.version_reading.specs.Plain.{FilledPlain, whole_version}
use Rattle.version_reading.specs.Value.{Value, value_of}
use Rattle.list_clauses.specs.declared.clause.Clause.{Clause}
use Rattle.answers.specs.declared.Refusal.{Refusal}
use Rattle.list_clauses.specs.Clause.{read_clause}
use Rattle.list_accepting.specs.Accept.{clause_accepts}

abbrev pub plain_value : Plain → Value
plain_value v = value_of [] (whole_version v)

-- what is read of a clause by its bytes, wherever it starts and they stand; of a pattern, by where it stands
abbrev pub from_any_start : (ℕ → Result Clause Refusal) → ℕ → ℕ → Result Clause Refusal
from_any_start pattern start from = pattern from

-- of a clause that is not found nothing is said
abbrev pub RightlyFound : (ℕ → ℕ → Result Clause Refusal) → Option (Operator × Plain) → Type 0
RightlyFound clause None = Unit {0}
RightlyFound clause (Some (operator, v)) = FilledPlain v × ((start from : ℕ) → clause start from ≡ read_clause operator false (whole_version v))

-- what a clause says of w, where those before it say `before`
abbrev pub verdict_after : Bool → Result Clause Refusal → Value → Result Bool Refusal
verdict_after before (Ok c) w = Ok (before && clause_accepts c w)
verdict_after before (Err x) w = Err x
