-- What makes an entry guilty: by each rule the number of the refusal, 0 for none; and the first guilty entry.
use Rattle.std.specs.Prelude.{List, cond, ℕ, zero, suc, ◌+◌, eqb, ltb, length, get_or, take, drop}
use Rattle.answers.specs.declared.Refusal.{Refusal}
use Rattle.answers.specs.Refusal.{refusal}
use Rattle.table_reading.specs.Table.{Tabled, refused, ranges, table_of}
use Rattle.register_entries.specs.declared.entry.Entry.{Entry}
use Rattle.register_entries.specs.Held.{blank, has}

-- the rules on entries that need no table; each is held against all entries before the next one is
pub data Rule : Type 0 where
  -- the identifier is 0
  Zero : Rule
  -- an earlier entry has the identifier
  Taken : Rule
  -- the table does not lie within the buffer
  Outside : Rule

abbrev pub entry_at : List Entry → ℕ → Entry
entry_at es i = get_or es i blank

-- the bytes of an entry's table
abbrev pub table_in : List ℕ → Entry → List ℕ
table_in buffer e = take e.length (drop e.start buffer)

-- the rules on an entry, after those before it, in their order: its identifier is 0; an earlier entry has it; the table does not end within the buffer
abbrev pub guilt_of : Rule → List ℕ → List Entry → Entry → ℕ
guilt_of Zero buffer earlier e = cond (eqb e.id 0) 31 0
guilt_of Taken buffer earlier e = cond (has e.id earlier) 32 0
guilt_of Outside buffer earlier e = cond (ltb (length buffer) (e.start + e.length)) 33 0

abbrev pub guilt_by : Rule → List ℕ → List Entry → ℕ → ℕ
guilt_by rule buffer es i = guilt_of rule buffer (take i es) (entry_at es i)

-- then its table is refused, with a number of its own
abbrev pub table_number : Tabled → ℕ
table_number (refused number place) = number
table_number (ranges T) = 0

abbrev pub table_guilt : List ℕ → List Entry → ℕ → ℕ
table_guilt buffer es i = table_number (table_of (table_in buffer (entry_at es i)))

-- the refusal at the lowest guilty index, from an index on; number 0 where none is guilty
unfoldable pub first_from : (ℕ → ℕ) → ℕ → ℕ → Refusal
first_from guilt zero i = refusal 0 0
first_from guilt (suc room) i = cond (eqb (guilt i) 0) (first_from guilt room (suc i)) (refusal (guilt i) i)

abbrev pub first_of : (ℕ → ℕ) → List Entry → Refusal
first_of guilt es = first_from guilt (length es) 0
