-- What lookup answers: of a well-formed table and a version, whether a range holds the version; else the table's refusal, and then the version's.
-- Assumes nothing.
use Rattle.answers.specs.declared.RefusedInput.TheVariants.{First, Second}
use Rattle.answers.specs.declared.RefusedInput.{RefusedInput}
use Rattle.std.specs.Prelude.{Result, Ok, Err}
use mathlib.Core.Path.{◌≡◌, refl, sym, ◌∙◌, ap}
use mathlib.Core.Bool.{Bool, true, false}
use mathlib.Core.List.{List}
use Prim.Native.Nat.{ℕ}
use Rattle.answers.specs.declared.Refusal.{Refusal}
use Rattle.answers.specs.Refusal.{refusal}
use Rattle.answers.specs.YesNo.{yes_or_no}
use Rattle.ranges.specs.Cut.{before}
use Rattle.ranges.specs.Range.{Range, mem}
use Rattle.version_reading.specs.declared.text.Verdict.{Verdict}
use Rattle.version_reading.specs.declared.text.Verdict.TheVariants.{Accepted, Refused}
use Rattle.version_reading.specs.Reading.{version_of}
use Rattle.version_reading.specs.Value.{Value, without_label, value_in}
use Rattle.version.proofs.Unique.{one_answer}
use Rattle.list_ends.specs.Cut.{Place, le_place}
use Rattle.table_reading.specs.Table.{Tabled, refused, ranges, bad, table_of}
use Rattle.table_reading.specs.Lookup.{looked_up, looked}
use Rattle.table_reading.proofs.Places.{unlabelled_mem}
use Rattle.table_reading.proofs.Tables.{only_18}

-- two answers that meet lookup's statement are the same
pub one_lookup : (s t : List ℕ) {r q : Result Bool RefusedInput} → r ≡ looked s t → q ≡ looked s t → r ≡ q
one_lookup s t p q = one_answer p q

yes_true : (held : Bool) → yes_or_no held ≡ Ok true → held ≡ true
yes_true true e = refl
yes_true false e = cc

module _ (s t : List ℕ) (T : List (Range Place)) (table : table_of s ≡ ranges T) where
  pub lookup_version_refused : (x : Refusal) → (version_of t).verdict ≡ Refused x → looked s t ≡ Err (Second x)
  unfolding looked
  lookup_version_refused x e = rw (table, e)

  module _ (accepted : (version_of t).verdict ≡ Accepted) where
    pub lookup_with_label : looked s t ≡ yes_or_no (mem le_place T (before (value_in t)))
    unfolding looked
    lookup_with_label = rw (table, accepted)

    pub lookup_in_well_formed : looked s t ≡ yes_or_no (mem le_place T (before (without_label (value_in t))))
    lookup_in_well_formed = lookup_with_label ∙ ap yes_or_no (unlabelled_mem T (value_in t))

    pub yes_if_held : mem le_place T (before (without_label (value_in t))) ≡ true → looked s t ≡ Ok true
    yes_if_held e = lookup_in_well_formed ∙ ap yes_or_no e

    pub held_if_yes : looked s t ≡ Ok true → mem le_place T (before (without_label (value_in t))) ≡ true
    held_if_yes e = yes_true _ (sym lookup_in_well_formed ∙ e)

-- a table that is not well formed is refused, whatever the version
pub lookup_refused : (s t : List ℕ) (number place : ℕ) → table_of s ≡ refused number place → looked s t ≡ Err (First (refusal number place))
unfolding looked
lookup_refused s t number place e = rw e

-- with 18 at 0 and no other number or place
pub lookup_bad : (s t : List ℕ) → table_of s ≡ bad → looked s t ≡ Err (First (refusal 18 0))
lookup_bad s t e = lookup_refused s t 18 0 e

table_refused : (s : List ℕ) (r : Tabled) (v : Verdict) (w : Value) (x : Refusal) → table_of s ≡ r → looked_up r v w ≡ Err (First x) →
    (x ≡ refusal 18 0) × (table_of s ≡ bad)
table_refused s (refused number place) v w x e f =
    let only = only_18 s number place e in
    let said : refusal number place ≡ x = cc in (
      sym said ∙ rw (only.0, only.1),
      e ∙ rw (only.0, only.1),
    )
table_refused s (ranges T) (Refused y) w x e f = (cc, cc)
table_refused s (ranges T) Accepted w x e f = neither (mem le_place T (before w)) f
  where
    neither : (held : Bool) → yes_or_no held ≡ Err (First x) → (x ≡ refusal 18 0) × (table_of s ≡ bad)
    neither true g = (cc, cc)
    neither false g = (cc, cc)

pub lookup_table_refused : (s t : List ℕ) (x : Refusal) → looked s t ≡ Err (First x) → (x ≡ refusal 18 0) × (table_of s ≡ bad)
unfolding looked
lookup_table_refused s t x e = table_refused s (table_of s) (version_of t).verdict (value_in t) x refl e
