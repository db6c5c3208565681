-- Which table fits a unit: the register is judged before the version, and each of its rules over all entries before the next.
use Rattle.answers.specs.declared.RefusedInput.TheVariants.{First, Second}
use Rattle.answers.specs.declared.RefusedInput.{RefusedInput}
use Rattle.std.specs.Prelude.{Bool, cond, List, [], ◌∷◌, ℕ, eqb, ltb, length, Result, Ok, Err}
use Rattle.answers.specs.declared.Refusal.{Refusal}
use Rattle.answers.specs.Refusal.{refusal}
use Rattle.answers.specs.YesNo.{says_yes}
use Rattle.version_reading.specs.declared.text.Verdict.{Verdict}
use Rattle.version_reading.specs.declared.text.Verdict.TheVariants.{Accepted, Refused}
use Rattle.version_reading.specs.Reading.{version_of}
use Rattle.table_reading.specs.Lookup.{looked}
use Rattle.register_entries.specs.declared.entry.Entry.{Entry}
use Rattle.register_rules.specs.declared.lowest.Lowest.{Lowest}
use Rattle.register_rules.specs.declared.lowest.Lowest.TheVariants.{Nothing}
use Rattle.register_rules.specs.Lowest.{lowest_from}
use Rattle.register_rules.specs.Guilt.{Zero, Taken, Outside, table_in, guilt_by, table_guilt, first_of}

-- whether an entry's table holds the version
abbrev pub fits : List ℕ → List ℕ → Entry → Bool
fits buffer text e = says_yes (looked (table_in buffer e) text)

-- the identifiers of the entries whose tables do, in the register's order
unfoldable pub fitting : List ℕ → List ℕ → List Entry → List ℕ
fitting buffer text [] = []
fitting buffer text (e ∷ es) = cond (fits buffer text e) (e.id ∷ fitting buffer text es) (fitting buffer text es)

-- a refusal, or what comes where there is none
abbrev pub unless : Refusal → Result Lowest RefusedInput → Result Lowest RefusedInput
unless x otherwise = cond (eqb x.number 0) otherwise (Err (First x))

abbrev pub answered : Verdict → Lowest → Result Lowest RefusedInput
answered (Refused x) lowest = Err (Second x)
answered Accepted lowest = Ok lowest

abbrev pub most : ℕ
most = 64

unfoldable pub fit_of : List Entry → List ℕ → List ℕ → Result Lowest RefusedInput
fit_of es buffer text =
    cond (ltb most (length es)) (Err (First (refusal 30 most)))
    (unless (first_of (guilt_by Zero buffer es) es)
    (unless (first_of (guilt_by Taken buffer es) es)
    (unless (first_of (guilt_by Outside buffer es) es)
    (unless (first_of (table_guilt buffer es) es)
    (answered (version_of text).verdict (lowest_from Nothing (fitting buffer text es)))))))
