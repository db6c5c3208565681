-- One clause: refusals 12 to 16 and the pattern's own, in their order.
use Rattle.std.specs.Prelude.{◌≡◌, Bool, false, cond, List, ℕ, ◌+◌, ◌≤◌, eqb, length, drop, Option, Some, None, Result, Ok, Err, IfOk}
use Rattle.answers.specs.declared.Refusal.{Refusal}
use Rattle.answers.specs.Refusal.{refusal}
use Rattle.version_parts.specs.declared.fields.Version.{Version}
use Rattle.version_reading.specs.declared.text.Verdict.{Verdict}
use Rattle.version_reading.specs.declared.text.Verdict.TheVariants.{Accepted, Refused}
use Rattle.version_reading.specs.declared.text.PatternReading.{PatternReading}
use Rattle.version_reading.specs.Reading.{pattern_of}
use Rattle.list_clauses.specs.declared.operator.Operator.{Operator}
use Rattle.list_clauses.specs.declared.operator.Operator.TheVariants.{Equal, NotEqual, Compatible, AtMost, AtLeast, Below, Above}
use Rattle.list_clauses.specs.declared.clause.Clause.{Clause}
use Rattle.list_clauses.specs.Operator.{operator_of}

abbrev pub refused_clause : ℕ → ℕ → Result Clause Refusal
refused_clause number place = Err (refusal number place)

abbrev pub clause_with : Operator → Bool → Version → Clause
clause_with operator wildcard version = record { operator = operator; wildcard = wildcard; version = version }

abbrev pub read_clause : Operator → Bool → Version → Result Clause Refusal
read_clause operator wildcard version = Ok (clause_with operator wildcard version)

-- a wildcard after an operator other than `==` and `!=`
abbrev pub stray_wildcard : Operator → Bool → Bool
stray_wildcard Equal wildcard = false
stray_wildcard NotEqual wildcard = false
stray_wildcard Compatible wildcard = wildcard
stray_wildcard AtMost wildcard = wildcard
stray_wildcard AtLeast wildcard = wildcard
stray_wildcard Below wildcard = wildcard
stray_wildcard Above wildcard = wildcard

-- `~=` with one release number
abbrev pub too_short_for : Operator → ℕ → Bool
too_short_for Compatible count = eqb count 1
too_short_for Equal count = false
too_short_for NotEqual count = false
too_short_for AtMost count = false
too_short_for AtLeast count = false
too_short_for Below count = false
too_short_for Above count = false

-- 14, then 15, then 16, placed after the operator
unfoldable pub judged : Operator → Bool → Version → ℕ → Result Clause Refusal
judged operator wildcard version place =
    cond (stray_wildcard operator wildcard)
    (refused_clause 14 place)
    (cond (eqb version.local.len 0)
    (cond (too_short_for operator version.release.len) (refused_clause 16 place) (read_clause operator wildcard version))
    (refused_clause 15 place))

-- the pattern's own refusal comes first, its place counted in the list
abbrev pub pattern_judged : Operator → ℕ → PatternReading → Verdict → Result Clause Refusal
pattern_judged operator place read Accepted = judged operator read.wildcard read.version place
pattern_judged operator place read (Refused refusal) = refused_clause refusal.number (place + refusal.place)

unfoldable pub pattern_clause : Operator → List ℕ → ℕ → Result Clause Refusal
pattern_clause operator text place = pattern_judged operator place (pattern_of text) (pattern_of text).verdict

-- the operator stands in front of the clause's bytes, and the pattern after it
abbrev pub operator_clause : List ℕ → ℕ → Option (Operator × ℕ) → Result Clause Refusal
operator_clause bytes from (Some (operator, width)) = pattern_clause operator (drop width bytes) (from + width)
operator_clause bytes from None = refused_clause 13 from

-- the clause that starts there, by its bytes without outer blanks, which stand at `from`
unfoldable pub clause_of : List ℕ → ℕ → ℕ → Result Clause Refusal
clause_of bytes start from = cond (eqb (length bytes) 0) (refused_clause 12 start) (operator_clause bytes from (operator_of bytes))

-- what a caller may count on beside the equation
pub record ClauseIs (spec r : Result Clause Refusal) : Type 0 where
  pub is : r ≡ spec
  pub few : IfOk r (λ c. c.version.release.len ≤ 16)
