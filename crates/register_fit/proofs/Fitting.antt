-- The ways of `fitting`: the rules, then the tables, then the version.
-- Assumes nothing.
use Rattle.answers.specs.declared.RefusedInput.TheVariants.{First, Second}
use Rattle.answers.specs.declared.RefusedInput.{RefusedInput}
use Rattle.std.specs.Prelude.{Result, Ok, Err}
use mathlib.Core.Path.{◌≡◌, refl, sym, ◌∙◌, ap}
use mathlib.Core.Bool.{Bool, true, false, cond}
use mathlib.Core.List.{List}
use Prim.Native.Nat.{ℕ}
use lib.Dec.{ltb, eqb}
use lib.ListN.{length}
use Rattle.answers.specs.declared.Refusal.{Refusal}
use Rattle.answers.specs.Refusal.{refusal}
use Rattle.version_reading.specs.declared.text.Verdict.{Verdict}
use Rattle.version_reading.specs.declared.text.Verdict.TheVariants.{Accepted, Refused}
use Rattle.version_reading.specs.Reading.{version_of}
use Rattle.version_rows.specs.Read.{RowRead}
use Rattle.register_entries.specs.declared.entry.Entry.{Entry}
use Rattle.register_rules.specs.declared.lowest.Lowest.{Lowest}
use Rattle.register_rules.specs.declared.lowest.Lowest.TheVariants.{Nothing}
use Rattle.register_rules.specs.Lowest.{lowest_from}
use Rattle.register_rules.specs.Guilt.{Zero, Taken, Outside, guilt_by, table_guilt, first_of}
use Rattle.register_rules.specs.Fit.{fitting, unless, answered, most, fit_of}
use Rattle.register_fit.specs.Rules.{kept_unless, rules_kept}
use Rattle.register_fit.specs.Search.{found_unless, SearchedBy}

-- a refusal of the register, or what comes where there is none
abbrev on_register : {A : Type 0} → Result A Refusal → (A → Result Lowest RefusedInput) → Result Lowest RefusedInput
on_register (Ok a) more = more a
on_register (Err x) more = Err (First x)

unless_kept : (x : Refusal) (k : Result (Unit {0}) Refusal) (more : Result Lowest RefusedInput) →
    on_register (kept_unless x k) (λ u. more) ≡ unless x (on_register k (λ u. more))
unless_kept x k more = go (eqb x.number 0)
  where
    go : (none : Bool) → on_register (cond none k (Err x)) (λ u. more) ≡ cond none (on_register k (λ u. more)) (Err (First x))
    go true = refl
    go false = refl

unless_found : (x : Refusal) (lowest : Lowest) (verdict : Verdict) → on_register (found_unless x lowest) (λ l. answered verdict l) ≡ unless x (answered verdict lowest)
unless_found x lowest verdict = go (eqb x.number 0)
  where
    go : (none : Bool) → on_register (cond none (Ok lowest) (Err x)) (λ l. answered verdict l) ≡ cond none (answered verdict lowest) (Err (First x))
    go true = refl
    go false = refl

module _ (es : List Entry) (buffer text : List ℕ) where
  abbrev tables_then : Result Lowest RefusedInput
  tables_then = unless (first_of (table_guilt buffer es) es) (answered (version_of text).verdict (lowest_from Nothing (fitting buffer text es)))

  by_rules : on_register (rules_kept buffer es) (λ u. tables_then) ≡ fit_of es buffer text
  unfolding fit_of rules_kept
  by_rules = go (ltb most (length es))
    where
      zero : Refusal
      zero = first_of (guilt_by Zero buffer es) es

      taken : Refusal
      taken = first_of (guilt_by Taken buffer es) es

      outside : Refusal
      outside = first_of (guilt_by Outside buffer es) es

      kept : on_register (kept_unless zero (kept_unless taken (kept_unless outside (Ok tt)))) (λ u. tables_then) ≡ unless zero (unless taken (unless outside tables_then))
      kept =
          unless_kept zero (kept_unless taken (kept_unless outside (Ok tt))) tables_then
          ∙ ap (unless zero) (unless_kept taken (kept_unless outside (Ok tt)) tables_then ∙ ap (unless taken) (unless_kept outside (Ok tt) tables_then))

      go : (many : Bool) → on_register (cond many (Err (refusal 30 most)) (kept_unless zero (kept_unless taken (kept_unless outside (Ok tt))))) (λ u. tables_then)
          ≡ cond many (Err (First (refusal 30 most))) (unless zero (unless taken (unless outside tables_then)))
      go true = refl
      go false = kept

  module _ (a : Result (Unit {0}) Refusal) (is : a ≡ rules_kept buffer es) where
    pub rules_told : (x : Refusal) → a ≡ Err x → Err (First x) ≡ fit_of es buffer text
    rules_told x e = let r : rules_kept buffer es ≡ Err x = sym is ∙ e in rw r at by_rules

    module _ (u : Unit {0}) (kept : a ≡ Ok u) (verdict : Verdict) (old row : List ℕ) (read : RowRead text old row verdict) (s : Result Lowest Refusal)
        (searched : SearchedBy buffer verdict row es s) where
      by_search : on_register s (λ l. answered verdict l) ≡ fit_of es buffer text
      by_search =
          let r : rules_kept buffer es ≡ Ok u = sym is ∙ kept in
          let all : tables_then ≡ fit_of es buffer text = rw r at by_rules in
          rw (searched.is text old read, read.is) (unless_found (first_of (table_guilt buffer es) es) (lowest_from Nothing (fitting buffer text es)) (version_of text).verdict ∙ all)

      pub table_told : (x : Refusal) → s ≡ Err x → Err (First x) ≡ fit_of es buffer text
      table_told x e = rw e at by_search

      pub version_told : (l : Lowest) (x : Refusal) → s ≡ Ok l → verdict ≡ Refused x → Err (Second x) ≡ fit_of es buffer text
      version_told l x e f = rw (e, f) at by_search

      pub lowest_told : (l : Lowest) → s ≡ Ok l → verdict ≡ Accepted → Ok l ≡ fit_of es buffer text
      lowest_told l e f = rw (e, f) at by_search
