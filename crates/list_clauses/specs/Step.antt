-- One step over a list: the clause that starts at a place, its part of the list, and where the next one starts. Clauses stand between commas.
use Rattle.std.specs.Prelude.{◌≡◌, cond, List, [], ◌∷◌, ◌++◌, ℕ, zero, suc, ◌+◌, ◌-◌, ◌≤◌, max, leb, ltb, length, take, drop, Result, Ok, Err, IfOk}
use Rattle.answers.specs.declared.Refusal.{Refusal}
use Prim.Native.Char.{code}
use Rattle.chars.specs.Scan.{index_of}
use Rattle.chars.specs.Class.{blank, between, front}
use Rattle.version_reading.specs.Reading.{longest}
use Rattle.list_clauses.specs.declared.clause.Clause.{Clause}
use Rattle.list_clauses.specs.declared.step.Part.{Part}
use Rattle.list_clauses.specs.declared.step.Step.{Step}
use Rattle.list_clauses.specs.Trim.{trimmed_length}
use Rattle.list_clauses.specs.Clause.{refused_clause, clause_of}

-- the bytes from one place up to another
abbrev pub bytes_in : List ℕ → ℕ → ℕ → List ℕ
bytes_in s from to = take (to - from) (drop from s)

-- the comma after the clause that starts there, or the end
unfoldable pub comma_after : List ℕ → ℕ → ℕ
comma_after s start = start + index_of (code ",") (drop start s)

-- trailing blanks are dropped before anything else, then leading blanks skipped
unfoldable pub part_end : List ℕ → ℕ → ℕ
part_end s start = start + trimmed_length (bytes_in s start (comma_after s start))

unfoldable pub part_start : List ℕ → ℕ → ℕ
part_start s start = start + front (between blank blank) (bytes_in s start (part_end s start))

-- the clause's bytes without outer blanks
abbrev pub part_bytes : List ℕ → ℕ → List ℕ
part_bytes s start = bytes_in s (part_start s start) (part_end s start)

-- the next clause starts after the comma; after the last one there is none, and the end stands for it
unfoldable pub part_at : List ℕ → ℕ → Part
part_at s start =
    let comma = comma_after s start in
    let last = leb (length s) comma in
    record { from = part_start s start; to = part_end s start; next = cond last comma (comma + 1); last = last }

-- a clause by its place, of a list that is not too long
abbrev pub clause_between : List ℕ → ℕ → ℕ → ℕ → Result Clause Refusal
clause_between s start from to = cond (ltb longest (length s)) (refused_clause 8 longest) (clause_of (bytes_in s from to) start from)

unfoldable pub clause_in : List ℕ → ℕ → Result Clause Refusal
clause_in s start = clause_between s start (part_start s start) (part_end s start)

unfoldable pub step_at : List ℕ → ℕ → Step
step_at s start = record { clause = clause_in s start; part = part_at s start }

pub record PartIs (s : List ℕ) (start : ℕ) (r : Part) : Type 0 where
  pub is : r ≡ part_at s start
  pub starts : start ≤ r.from
  pub some : r.from ≤ r.to
  pub inside : r.to ≤ max r.from (length s)
  pub onward : start ≤ r.next
  pub within : r.next ≤ max start (length s)

pub record StepIs (s : List ℕ) (start : ℕ) (r : Step) : Type 0 where
  pub is : r ≡ step_at s start
  pub few : IfOk r.clause (λ c. c.version.release.len ≤ 16)
  pub onward : start ≤ r.part.next
  pub within : r.part.next ≤ max start (length s)

-- a clause, if it was read
abbrev pub read_there : Result Clause Refusal → List Clause
read_there (Ok c) = c ∷ []
read_there (Err x) = []

-- where the clause starts that has i before it, and the first i clauses, as far as they were read
unfoldable pub start_at : List ℕ → ℕ → ℕ
start_at s zero = 0
start_at s (suc i) = (part_at s (start_at s i)).next

unfoldable pub first_clauses : List ℕ → ℕ → List Clause
first_clauses s zero = []
first_clauses s (suc i) = first_clauses s i ++ read_there (clause_in s (start_at s i))
