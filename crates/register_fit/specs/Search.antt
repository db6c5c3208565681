-- The search through the tables, entry by entry: what its functions say of each other.
use Rattle.answers.specs.declared.RefusedInput.TheVariants.{First, Second}
use Rattle.answers.specs.declared.RefusedInput.{RefusedInput}
use Rattle.std.specs.Prelude.{◌≡◌, List, cond, ℕ, eqb, length, Result, Ok, Err, Bool, true, false}
use Rattle.answers.specs.declared.Refusal.{Refusal}
use Rattle.answers.specs.Refusal.{refusal}
use Rattle.version_reading.specs.declared.text.Verdict.{Verdict}
use Rattle.version_rows.specs.Read.{RowRead}
use Rattle.register_entries.specs.declared.entry.Entry.{Entry}
use Rattle.register_rules.specs.declared.lowest.Lowest.{Lowest}
use Rattle.register_rules.specs.declared.lowest.Lowest.TheVariants.{Nothing}
use Rattle.register_rules.specs.Lowest.{lowered, lowest_from}
use Rattle.register_rules.specs.Guilt.{table_guilt, first_from}
use Rattle.register_rules.specs.Fit.{fitting}

-- what the answer of an entry's table makes of the two lowest so far
abbrev pub met : Result Bool RefusedInput → Entry → ℕ → Lowest → Result Lowest Refusal
met (Ok true) e i lowest = Ok (lowered lowest e.id)
met (Ok false) e i lowest = Ok lowest
met (Err (Second x)) e i lowest = Ok lowest
met (Err (First x)) e i lowest = Err (refusal x.number i)

-- the first table that is refused, or the two lowest
abbrev pub found_unless : Refusal → Lowest → Result Lowest Refusal
found_unless x lowest = cond (eqb x.number 0) (Ok lowest) (Err x)

-- the entries of a register from an index on, which are these, with the two lowest so far
abbrev pub searched_from : List ℕ → List ℕ → List Entry → ℕ → ℕ → List Entry → Lowest → Result Lowest Refusal
searched_from buffer text es room i rest lowest = found_unless (first_from (table_guilt buffer es) room i) (lowest_from lowest (fitting buffer text rest))

abbrev pub searched_in : List ℕ → List ℕ → List Entry → Result Lowest Refusal
searched_in buffer text es = searched_from buffer text es (length es) 0 es Nothing

-- what is found with a verdict and a row is what is found with the text that they were read of, whichever that is
pub record SearchedBy (buffer : List ℕ) (verdict : Verdict) (row : List ℕ) (es : List Entry) (r : Result Lowest Refusal) : Type 0 where
  pub is : (text old : List ℕ) → RowRead text old row verdict → r ≡ searched_in buffer text es
