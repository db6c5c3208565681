-- The rules on entries that need no table: where each is broken first, and what comes of them in their order.
use Rattle.std.specs.Prelude.{◌≡◌, Bool, true, false, cond, List, ℕ, ◌<◌, eqb, ltb, length, take, Option, Some, None, Result, Ok, Err}
use Rattle.answers.specs.declared.Refusal.{Refusal}
use Rattle.answers.specs.Refusal.{refusal}
use Rattle.register_entries.specs.declared.entry.Entry.{Entry}
use Rattle.register_entries.specs.Held.{has}
use Rattle.register_rules.specs.Guilt.{Zero, Taken, Outside, entry_at, guilt_by, first_of}
use Rattle.register_rules.specs.Fit.{most}

-- an earlier entry has the identifier
abbrev pub is_repeated : List Entry → ℕ → Bool
is_repeated es i = has (entry_at es i).id (take i es)

-- the first of n indices at which a test passes
abbrev pub FirstWhere : (ℕ → Bool) → ℕ → Option ℕ → Type 0
FirstWhere p n None = (k : ℕ) → k < n → p k ≡ false
FirstWhere p n (Some i) = (i < n) × (p i ≡ true) × ((k : ℕ) → k < i → p k ≡ false)

abbrev pub refused_at : ℕ → Option ℕ → Result (Unit {0}) Refusal
refused_at number None = Ok tt
refused_at number (Some place) = Err (refusal number place)

-- a refusal, or what comes where its number is 0
abbrev pub kept_unless : Refusal → Result (Unit {0}) Refusal → Result (Unit {0}) Refusal
kept_unless x otherwise = cond (eqb x.number 0) otherwise (Err x)

-- the number of entries, then the rules in their order
unfoldable pub rules_kept : List ℕ → List Entry → Result (Unit {0}) Refusal
rules_kept buffer es =
    cond (ltb most (length es)) (Err (refusal 30 most))
    (kept_unless (first_of (guilt_by Zero buffer es) es)
    (kept_unless (first_of (guilt_by Taken buffer es) es)
    (kept_unless (first_of (guilt_by Outside buffer es) es) (Ok tt))))
