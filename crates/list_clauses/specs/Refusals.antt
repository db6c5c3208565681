-- The table of refusals for lists, row by row: when 8, 12 to 17 and those of a pattern are due, and where.
use Rattle.std.specs.Prelude.{◌≡◌, true, false, List, ℕ, suc, ◌+◌, ◌≤◌, ◌<◌, length, drop, Some, None}
use Rattle.chars.specs.Class.{blank, between, front}
use Rattle.version_reading.specs.declared.text.Verdict.TheVariants.{Accepted}
use Rattle.version_reading.specs.declared.text.PatternReading.{PatternReading}
use Rattle.version_reading.specs.Reading.{longest, pattern_of}
use Rattle.version.specs.Refusals.{Fault as PatternFault}
use Rattle.list_clauses.specs.declared.operator.Operator.{Operator}
use Rattle.list_clauses.specs.Operator.{operator_of}
use Rattle.list_clauses.specs.Clause.{stray_wildcard, too_short_for}
use Rattle.list_clauses.specs.Step.{comma_after, part_start, part_bytes}

-- an operator stands in front of the bytes t, and its pattern after that many bytes
pub record OperatorRead (t : List ℕ) (operator : Operator) (width : ℕ) : Type 0 where
  pub some : length t ≡ 0 → ⊥
  pub found : operator_of t ≡ Some (operator, width)

-- the pattern was read, by its own rules
pub record PatternRead (t : List ℕ) (operator : Operator) (width : ℕ) (pattern : PatternReading) : Type 0 where
  pub operated : OperatorRead t operator width
  pub is : pattern ≡ pattern_of (drop width t)
  pub read : pattern.verdict ≡ Accepted

-- the rows of one clause by number and place: it starts at `start`, and its bytes without outer blanks are t, at `from`
pub data Fault (t : List ℕ) (start from : ℕ) : ℕ → ℕ → Type 0 where
  -- an empty clause
  empty : length t ≡ 0 → Fault t start from 12 start
  -- no operator, or `===`
  no_operator : (length t ≡ 0 → ⊥) → operator_of t ≡ None → Fault t start from 13 from
  -- the pattern's own
  in_pattern : (operator : Operator) (width number place : ℕ) → OperatorRead t operator width → PatternFault true (drop width t) number place →
      Fault t start from number (from + width + place)
  -- a wildcard with an operator other than `==` and `!=`
  stray_wildcard_there : (operator : Operator) (width : ℕ) (pattern : PatternReading) → PatternRead t operator width pattern →
      stray_wildcard operator pattern.wildcard ≡ true → Fault t start from 14 (from + width)
  -- a label
  labelled : (operator : Operator) (width : ℕ) (pattern : PatternReading) → PatternRead t operator width pattern →
      stray_wildcard operator pattern.wildcard ≡ false → (pattern.version.local.len ≡ 0 → ⊥) → Fault t start from 15 (from + width)
  -- `~=` with one release number
  too_short : (operator : Operator) (width : ℕ) (pattern : PatternReading) → PatternRead t operator width pattern →
      stray_wildcard operator pattern.wildcard ≡ false → pattern.version.local.len ≡ 0 →
      too_short_for operator pattern.version.release.len ≡ true → Fault t start from 16 (from + width)

-- the rows of the clause that starts there
abbrev pub FaultAt : List ℕ → ℕ → ℕ → ℕ → Type 0
FaultAt s start = Fault (part_bytes s start) start (part_start s start)

-- a clause without a fault
abbrev pub Faultless : List ℕ → ℕ → Type 0
Faultless s start = (number place : ℕ) → FaultAt s start number place → ⊥

-- that many clauses without a fault were read, and another begins at `start`
pub data Begun (s : List ℕ) : ℕ → ℕ → Type 0 where
  first : (front (between blank blank) s ≡ length s → ⊥) → Begun s 0 0
  after_comma : (count start : ℕ) → Begun s count start → Faultless s start → comma_after s start < length s →
      Begun s (suc count) (comma_after s start + 1)

pub data Row (s : List ℕ) : ℕ → ℕ → Type 0 where
  -- over 1,024 bytes
  too_long : longest < length s → Row s 8 longest
  -- a 17th clause begins
  too_many : (start : ℕ) → length s ≤ longest → Begun s 16 start → Row s 17 start
  -- a fault of one of the first 16
  in_clause : (count start number place : ℕ) → length s ≤ longest → Begun s count start → count < 16 → FaultAt s start number place →
      Row s number place
