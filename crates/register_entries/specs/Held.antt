-- The first 65 entries of a list, in an array.
use Rattle.std.specs.Prelude.{Bool, cond, List, [], ◌∷◌, ◌++◌, ℕ, ◌+◌, ◌==◌, ltb, length, get_or, take, drop, set, replicate}
use Rattle.std.specs.List.{list_any}
use Rattle.register_entries.specs.declared.entry.Entry.{Entry}
use Rattle.register_entries.specs.declared.held.Held.{Held}

abbrev pub entry_of : ℕ → ℕ → ℕ → Entry
entry_of id start length = record { id = id; start = start; length = length }

abbrev pub blank : Entry
blank = entry_of 0 0 0

-- a list's first 65, with blanks after them, and how many they are
unfoldable pub held_of : List Entry → Held
held_of es = record { list = take 65 (es ++ replicate 65 blank); count = length (take 65 es) }

-- the entries that are held
unfoldable pub entries_in : Held → List Entry
entries_in h = take h.count h.list

-- one more after the others, while there is room
unfoldable pub with_entry : Held → Entry → Held
with_entry held e = cond (ltb held.count 65) (record { list = set held.list held.count e; count = held.count + 1 }) held

-- an entry for each identifier, in turn; a start or a length that is missing reads as 0
unfoldable pub entries_of : List ℕ → List ℕ → List ℕ → List Entry
entries_of [] starts lengths = []
entries_of (id ∷ ids) starts lengths = entry_of id (get_or starts 0 0) (get_or lengths 0 0) ∷ entries_of ids (drop 1 starts) (drop 1 lengths)

-- whether one of the entries has an identifier
unfoldable pub has : ℕ → List Entry → Bool
has id es = list_any (λ e. e.id == id) es
