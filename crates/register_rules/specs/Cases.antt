-- The cases of a register, entry by entry: when each refusal is due and where, when a register is sound, and which entries accept a version.
-- A second reading of what `fit_of` says, with no search and no order of steps in it.
use Rattle.answers.specs.declared.RefusedInput.TheVariants.{First, Second}
use Rattle.register_rules.specs.declared.lowest.Lowest.{Lowest}
use Rattle.answers.specs.declared.RefusedInput.{RefusedInput}
use Rattle.std.specs.Prelude.{◌≡◌, List, ℕ, ◌+◌, ◌≤◌, ◌<◌, length, Ok, true, Result, Err}
use Rattle.answers.specs.declared.Refusal.{Refusal}
use Rattle.version_reading.specs.declared.text.Verdict.TheVariants.{Accepted, Refused}
use Rattle.version_reading.specs.Reading.{version_of}
use Rattle.ranges.specs.Range.{Range}
use Rattle.list_ends.specs.Cut.{Place}
use Rattle.table_reading.specs.Table.{refused, ranges, table_of}
use Rattle.table_reading.specs.Lookup.{looked}
use Rattle.register_entries.specs.declared.entry.Entry.{Entry}
use Rattle.register_rules.specs.declared.lowest.Lowest.TheVariants.{Nothing, One, Two}
use Rattle.register_rules.specs.Guilt.{entry_at, table_in}

-- of the entry at an index: its identifier, where its table ends, and its table
abbrev pub id_at : List Entry → ℕ → ℕ
id_at es i = (entry_at es i).id

abbrev pub end_at : List Entry → ℕ → ℕ
end_at es i = (entry_at es i).start + (entry_at es i).length

abbrev pub table_at : List Entry → List ℕ → ℕ → List ℕ
table_at es buffer i = table_in buffer (entry_at es i)

-- what is asked of the first n entries: no identifier is 0
abbrev pub NoZero : List Entry → ℕ → Type 0
NoZero es n = (i : ℕ) → i < n → id_at es i ≡ 0 → ⊥

-- no two have the same identifier
abbrev pub Differ : List Entry → ℕ → Type 0
Differ es n = (j i : ℕ) → j < i → i < n → id_at es j ≡ id_at es i → ⊥

-- the tables lie within the buffer
abbrev pub Within : List Entry → List ℕ → ℕ → Type 0
Within es buffer n = (i : ℕ) → i < n → end_at es i ≤ length buffer

-- and are well formed
abbrev pub WellFormed : List Entry → List ℕ → ℕ → Type 0
WellFormed es buffer n = (i : ℕ) → i < n → (T : List (Range Place)) × (table_of (table_at es buffer i) ≡ ranges T)

-- a register to which nothing is to be said
pub record Sound (es : List Entry) (buffer : List ℕ) : Type 0 where
  pub few : length es ≤ 64
  pub no_zero : NoZero es (length es)
  pub differ : Differ es (length es)
  pub within : Within es buffer (length es)
  pub well_formed : WellFormed es buffer (length es)

-- the rows of the register's refusals, by number and place: entry i is the first to break a rule that those before it, and all of the rules
-- before, keep
pub data Fault (es : List Entry) (buffer : List ℕ) : ℕ → ℕ → Type 0 where
  -- over 64 entries
  too_many : 64 < length es → Fault es buffer 30 64
  -- identifier 0
  zero : (i : ℕ) → length es ≤ 64 → i < length es → id_at es i ≡ 0 → NoZero es i → Fault es buffer 31 i
  -- the identifier of an earlier entry, j
  taken : (i j : ℕ) → length es ≤ 64 → NoZero es (length es) → i < length es → j < i → id_at es j ≡ id_at es i → Differ es i → Fault es buffer 32 i
  -- the table ends after the buffer's end
  outside : (i : ℕ) → length es ≤ 64 → NoZero es (length es) → Differ es (length es) → i < length es → length buffer < end_at es i →
      Within es buffer i → Fault es buffer 33 i
  -- the table's own refusal, at the entry's index
  bad_table : (i number place : ℕ) → length es ≤ 64 → NoZero es (length es) → Differ es (length es) → Within es buffer (length es) →
      i < length es → table_of (table_at es buffer i) ≡ refused number place → WellFormed es buffer i → Fault es buffer number i

-- the table of entry i holds the version
abbrev pub Accepts : List Entry → List ℕ → List ℕ → ℕ → Type 0
Accepts es buffer text i = (i < length es) × (looked (table_at es buffer i) text ≡ Ok true)

abbrev pub NoneAccepts : List Entry → List ℕ → List ℕ → Type 0
NoneAccepts es buffer text = (k : ℕ) → Accepts es buffer text k → ⊥

-- one entry alone accepts the version, and has that identifier
pub record OneAccepts (es : List Entry) (buffer text : List ℕ) (id : ℕ) : Type 0 where
  pub i : ℕ
  pub accepts : Accepts es buffer text i
  pub named : id_at es i ≡ id
  pub alone : (k : ℕ) → Accepts es buffer text k → k ≡ i

-- two entries with identifiers a below b accept it, and every other entry that accepts it has an identifier above b
pub record TwoAccept (es : List Entry) (buffer text : List ℕ) (a b : ℕ) : Type 0 where
  pub i : ℕ
  pub j : ℕ
  pub i_accepts : Accepts es buffer text i
  pub j_accepts : Accepts es buffer text j
  pub i_named : id_at es i ≡ a
  pub j_named : id_at es j ≡ b
  pub ordered : a < b
  pub others : (k : ℕ) → Accepts es buffer text k → (k ≡ i → ⊥) → (k ≡ j → ⊥) → b < id_at es k

-- the whole statement: each answer with its case
pub data Due (es : List Entry) (buffer text : List ℕ) : Result Lowest RefusedInput → Type 0 where
  register : (x : Refusal) → Fault es buffer x.number x.place → Due es buffer text (Err (First x))
  version : (x : Refusal) → Sound es buffer → (version_of text).verdict ≡ Refused x → Due es buffer text (Err (Second x))
  none : Sound es buffer → (version_of text).verdict ≡ Accepted → NoneAccepts es buffer text → Due es buffer text (Ok Nothing)
  one : (id : ℕ) → Sound es buffer → (version_of text).verdict ≡ Accepted → OneAccepts es buffer text id → Due es buffer text (Ok (One id))
  two : (a b : ℕ) → Sound es buffer → (version_of text).verdict ≡ Accepted → TwoAccept es buffer text a b → Due es buffer text (Ok (Two a b))
