-- Entering a line: why it is refused, and what comes of it.
use Rattle.std.specs.Prelude.{◌≡◌, cond, List, [], ◌++◌, ℕ, ◌+◌, ◌≤◌, max, eqb, ltb, length, take, drop, Result, Ok, Err}
use Rattle.answers.specs.declared.Refusal.{Refusal}
use Rattle.answers.specs.Refusal.{refusal}
use Rattle.list_clauses.specs.List.{list_of}
use Rattle.table_compile.specs.Compiled.{answer_to, filled_to}
use Rattle.register_entries.specs.declared.entry.Entry.{Entry}
use Rattle.register_entries.specs.Held.{entry_of, held_of, entries_in, with_entry, has}
use Rattle.register_rules.specs.Fit.{most}
use Rattle.register_lines.specs.declared.shelf.Shelf.{Shelf}
use Rattle.register_lines.specs.Line.{id_of, list_in}

unfoldable pub empty_shelf : Shelf
empty_shelf = record { held = held_of []; used = 0 }

-- whether a line may be entered whatever its list: not where there are as many entries as may be, where it has no identifier, or where an entry has
-- the same
abbrev pub line_refusal : List Entry → ℕ → Result (Unit {0}) Refusal
line_refusal es id =
    cond (ltb (length es) most)
    (cond (eqb id 0) (Err (refusal 31 0)) (cond (has id es) (Err (refusal 32 0)) (Ok tt)))
    (Err (refusal 30 most))

-- what compiling a list into the buffer from a place on answers, and the whole buffer afterwards
abbrev pub put_answer : List ℕ → ℕ → List ℕ → Result ℕ Refusal
put_answer tables used list = answer_to (list_of list) (drop used tables)

abbrev pub put_behind : List ℕ → ℕ → List ℕ → List ℕ
put_behind tables used list = take used tables ++ filled_to (list_of list) (drop used tables)

-- where what was written from a place on ends
abbrev pub end_behind : ℕ → Result ℕ Refusal → ℕ
end_behind used (Ok n) = used + n
end_behind used (Err x) = used

pub record ListPut (old : List ℕ) (used : ℕ) (list new : List ℕ) (r : Result ℕ Refusal) : Type 0 where
  pub answers : r ≡ put_answer old used list
  pub leaves : new ≡ put_behind old used list
  pub within : end_behind used r ≤ max used (length old)

-- the shelf after a line whose table was written at its end
abbrev pub placed : Shelf → ℕ → Result ℕ Refusal → Result Shelf Refusal
placed shelf id (Ok n) = Ok (record { held = with_entry shelf.held (entry_of id shelf.used n); used = shelf.used + n })
placed shelf id (Err x) = Err x

-- by the refusal that does not depend on the list
abbrev pub entered_by : Result (Unit {0}) Refusal → Result Shelf Refusal → Result Shelf Refusal
entered_by (Ok u) behind = behind
entered_by (Err x) behind = Err x

abbrev pub tables_by : Result (Unit {0}) Refusal → List ℕ → List ℕ → List ℕ
tables_by (Ok u) behind tables = behind
tables_by (Err x) behind tables = tables

-- the answer to a line, and the buffer afterwards
unfoldable pub entered : List ℕ → Shelf → List ℕ → Result Shelf Refusal
entered tables shelf line =
    entered_by (line_refusal (entries_in shelf.held) (id_of line)) (placed shelf (id_of line) (put_answer tables shelf.used (list_in line)))

unfoldable pub tables_after : List ℕ → Shelf → List ℕ → List ℕ
tables_after tables shelf line =
    tables_by (line_refusal (entries_in shelf.held) (id_of line)) (put_behind tables shelf.used (list_in line)) tables

-- the answer, the buffer afterwards, and that a line that is refused changes no byte of it
pub record Entering (old : List ℕ) (shelf : Shelf) (line new : List ℕ) (r : Result Shelf Refusal) : Type 0 where
  pub answers : r ≡ entered old shelf line
  pub leaves : new ≡ tables_after old shelf line
  pub kept : (x : Refusal) → r ≡ Err x → new ≡ old
