-- The ways of the search through the tables.
-- Assumes nothing.
use Rattle.answers.specs.declared.RefusedInput.TheVariants.{First, Second}
use Rattle.answers.specs.declared.RefusedInput.{RefusedInput}
use Rattle.std.specs.Prelude.{Result, Ok, Err, Bool, true, false}
use mathlib.Core.Path.{◌≡◌, refl, sym, ◌∙◌, ap, subst}
use mathlib.Core.List.{List, ◌∷◌}
use Prim.Native.Nat.{ℕ, suc, ◌+◌, ◌-◌, ◌≤◌, ◌<◌}
use native.Mathlib.Numerals.{add-one}
use native.Mathlib.Omega.{arith}
use lib.ListN.{length, get_or, drop, drop_of_length-le}
use lib.Seq.{drop-cons}
use borrow.Author.Tests.{ne_eqb}
use Rattle.answers.specs.declared.Refusal.{Refusal}
use Rattle.answers.specs.Refusal.{refusal}
use Rattle.version_reading.specs.declared.text.Verdict.{Verdict}
use Rattle.version_rows.specs.Read.{RowRead}
use Rattle.table_reading.specs.Table.{Tabled, refused, ranges, table_of}
use Rattle.table_reading.specs.Lookup.{looked}
use Rattle.table_reading.proofs.Tables.{only_18}
use Rattle.table_reading.proofs.Answers.{lookup_refused, lookup_table_refused}
use Rattle.table_lookup.specs.Lookup.{looked_row}
use Rattle.table_lookup.proofs.Lookups.{row_looked}
use Rattle.register_entries.specs.declared.entry.Entry.{Entry}
use Rattle.register_entries.specs.Held.{blank}
use Rattle.std.proofs.lemmas.List.{get_or_default}
use Rattle.register_rules.specs.declared.lowest.Lowest.{Lowest}
use Rattle.register_rules.specs.declared.lowest.Lowest.TheVariants.{Nothing}
use Rattle.register_rules.specs.Guilt.{entry_at, table_in, table_number, first_from}
use Rattle.register_rules.specs.Lowest.{lowest_from}
use Rattle.register_rules.specs.Fit.{fitting}
use Rattle.register_fit.specs.Search.{met, searched_from, searched_in, SearchedBy}

-- what a table is, by its answer: one that is refused has a number of its own
data Judged (s text : List ℕ) : Result Bool RefusedInput → Type 0 where
  bad : (number place : ℕ) → table_number (table_of s) ≡ number → (number ≡ 0 → ⊥) → Judged s text (Err (First (refusal number place)))
  yes : table_number (table_of s) ≡ 0 → Judged s text (Ok true)
  no : table_number (table_of s) ≡ 0 → Judged s text (Ok false)
  version : (x : Refusal) → table_number (table_of s) ≡ 0 → Judged s text (Err (Second x))

judged_by : (s text : List ℕ) (a : Result Bool RefusedInput) (t : Tabled) → looked s text ≡ a → table_of s ≡ t → Judged s text a
judged_by s text a (refused number place) e f =
    subst (Judged s text) (sym (lookup_refused s text number place f) ∙ e)
    (Judged.bad number place (rw f) (λ q. let n = (only_18 s number place f).0 in omega (arith, n, q)))
judged_by s text (Ok true) (ranges T) e f = Judged.yes (rw f)
judged_by s text (Ok false) (ranges T) e f = Judged.no (rw f)
judged_by s text (Err (Second x)) (ranges T) e f = Judged.version x (rw f)
judged_by s text (Err (First x)) (ranges T) e f =
    let no_table = (lookup_table_refused s text x e).1 in
    let both : length s ≡ suc (length s) = cc in
    absurd (omega (arith, both))

judged_as : (s text : List ℕ) → Judged s text (looked s text)
judged_as s text = judged_by s text (looked s text) (table_of s) refl refl

-- what the search goes on to, by what it met
abbrev onward : (Lowest → Result Lowest Refusal) → Result Lowest Refusal → Result Lowest Refusal
onward more (Err x) = Err x
onward more (Ok l) = more l

module _ (buffer text : List ℕ) (es : List Entry) (room i : ℕ) (x : Entry) (rest : List Entry) (lowest : Lowest) (here : entry_at es i ≡ x) where
  abbrev more : Lowest → Result Lowest Refusal
  more l = searched_from buffer text es room (i + 1) rest l

  by_answer : (a : Result Bool RefusedInput) → looked (table_in buffer x) text ≡ a → Judged (table_in buffer x) text a →
      searched_from buffer text es (suc room) i (x ∷ rest) lowest ≡ onward more (met a x i lowest)
  unfolding first_from lowest_from fitting
  by_answer (Err (First y)) e (Judged.bad number place t f) = rw (here, t, ne_eqb number 0 f, ne_eqb number 0 f)
  by_answer (Ok true) e (Judged.yes t) = rw (here, t, e, add-one i)
  by_answer (Ok false) e (Judged.no t) = rw (here, t, e, add-one i)
  by_answer (Err (Second y)) e (Judged.version z t) = rw (here, t, e, add-one i)

  search_step : searched_from buffer text es (suc room) i (x ∷ rest) lowest ≡ onward more (met (looked (table_in buffer x) text) x i lowest)
  search_step = by_answer (looked (table_in buffer x) text) refl (judged_as (table_in buffer x) text)

-- `search` for a text, at index i
module _ (buffer text : List ℕ) (es : List Entry) where
  text_start : searched_from buffer text es (length es - 0) 0 (drop 0 es) Nothing ≡ searched_in buffer text es
  text_start = let all : length es - 0 ≡ length es = omega arith in rw all

  module _ (i : ℕ) (lowest : Lowest) (same : searched_from buffer text es (length es - i) i (drop i es) lowest ≡ searched_in buffer text es) where
    text_over : length es ≤ i → Ok lowest ≡ searched_in buffer text es
    unfolding first_from lowest_from fitting
    text_over h =
        let z : length es - i ≡ 0 = omega arith in
        let done : searched_from buffer text es (length es - i) i (drop i es) lowest ≡ Ok lowest = rw (z, drop_of_length-le es h) in
        sym done ∙ same

    module _ (h : i < length es) (d : Entry) (m : Result Lowest Refusal) (e : m ≡ met (looked (table_in buffer (get_or es i d)) text) (get_or es i d) i lowest) where
      abbrev here : entry_at es i ≡ get_or es i d
      here = get_or_default es i blank d h

      stepped : onward (more buffer text es (length es - (i + 1)) i (get_or es i d) (drop (i + 1) es) lowest here) m ≡ searched_in buffer text es
      stepped =
          let one : length es - i ≡ suc (length es - (i + 1)) = omega arith in
          let on = search_step buffer text es (length es - (i + 1)) i (get_or es i d) (drop (i + 1) es) lowest here in
          let there : drop i es ≡ get_or es i d ∷ drop (i + 1) es = rw (add-one i) (drop-cons es i d h) in
          rw e (sym on ∙ (rw (one, there) at same))

      text_ends : (y : Refusal) → m ≡ Err y → Err y ≡ searched_in buffer text es
      text_ends y f = let s = stepped in rw f at s

      text_on : (k : Lowest) → m ≡ Ok k → searched_from buffer text es (length es - (i + 1)) (i + 1) (drop (i + 1) es) k ≡ searched_in buffer text es
      text_on k f = let s = stepped in rw f at s

-- what is left to search from index i on, whichever text the verdict and the row were read of
pub record Left (buffer : List ℕ) (verdict : Verdict) (row : List ℕ) (es : List Entry) (i : ℕ) (lowest : Lowest) : Type 0 where
  pub same : (text old : List ℕ) → RowRead text old row verdict →
      searched_from buffer text es (length es - i) i (drop i es) lowest ≡ searched_in buffer text es

module _ (buffer : List ℕ) (verdict : Verdict) (row : List ℕ) (es : List Entry) where
  pub search_start : Left buffer verdict row es 0 Nothing
  search_start = record { same = λ text old read. text_start buffer text es }

  module _ (i : ℕ) (lowest : Lowest) (left : Left buffer verdict row es i lowest) where
    pub search_over : length es ≤ i → SearchedBy buffer verdict row es (Ok lowest)
    search_over h = record { is = λ text old read. text_over buffer text es i lowest (left.same text old read) h }

    module _ (h : i < length es) (d : Entry) (m : Result Lowest Refusal) (e : m ≡ met (looked_row (table_in buffer (get_or es i d)) verdict row) (get_or es i d) i lowest) where
      by_text : (text old : List ℕ) → RowRead text old row verdict → m ≡ met (looked (table_in buffer (get_or es i d)) text) (get_or es i d) i lowest
      by_text text old read = e ∙ ap (λ a. met a (get_or es i d) i lowest) (row_looked (table_in buffer (get_or es i d)) text old row verdict read)

      pub search_ends : (y : Refusal) → m ≡ Err y → SearchedBy buffer verdict row es (Err y)
      search_ends y f =
          record { is = λ text old read. text_ends buffer text es i lowest (left.same text old read) h d m (by_text text old read) y f }

      pub search_on : (k : Lowest) → m ≡ Ok k → Left buffer verdict row es (i + 1) k
      search_on k f =
          record { same = λ text old read. text_on buffer text es i lowest (left.same text old read) h d m (by_text text old read) k f }
