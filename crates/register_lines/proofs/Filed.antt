-- Lines and the entries that came of them: each entry's table lies in the buffer, and stays there whatever is written after it.
-- Assumes nothing.
use mathlib.Core.Path.{◌≡◌, refl, sym, ◌∙◌, ap}
use mathlib.Core.List.{List, [], ◌∷◌, ◌++◌}
use Prim.Native.Nat.{ℕ, zero, suc, ◌+◌, ◌≤◌, ◌<◌}
use native.Mathlib.Omega.{arith}
use lib.ListN.{length, take, drop}
use lib.Seq.{take-take}
use Rattle.list_clauses.specs.declared.clause.Clause.{Clause}
use Rattle.list_clauses.specs.List.{clauses, list_of}
use Rattle.list_ends.specs.Shape.{ranges_of}
use Rattle.table_reading.specs.Text.{table_text}
use Rattle.table_agreement.proofs.Agreement.{compiled_well_formed, table_agrees}
use Rattle.register_entries.specs.declared.entry.Entry.{Entry}
use Rattle.register_entries.specs.Held.{has}
use Rattle.register_rules.specs.Guilt.{entry_at, table_in}
use Rattle.register_rules.specs.Cases.{NoZero, Within, WellFormed}
use Rattle.register_rules.specs.Fit.{fitting}
use Rattle.register_lines.specs.Line.{id_of, list_in}
use Rattle.register_lines.specs.Shelved.{taken, acceptors}

-- the entry of a line, whose table ends at `used` or before it
pub record Filed (used : ℕ) (tables line : List ℕ) (e : Entry) : Type 0 where
  pub named : e.id ≡ id_of line
  pub some : id_of line ≡ 0 → ⊥
  pub said : List Clause
  pub listed : list_of (list_in line) ≡ clauses said
  pub bytes : table_in tables e ≡ table_text (ranges_of said)
  pub inside : e.start + e.length ≤ used

-- one for one
pub data AllFiled (used : ℕ) (tables : List ℕ) : List (List ℕ) → List Entry → Type 0 where
  none : AllFiled used tables [] []
  also : {line : List ℕ} {e : Entry} {lines : List (List ℕ)} {es : List Entry} → Filed used tables line e → AllFiled used tables lines es →
      AllFiled used tables (line ∷ lines) (e ∷ es)

-- a part that ends at a place or before it is a part of what lies before that place
part_before : (used start len : ℕ) (l : List ℕ) → start + len ≤ used → take len (drop start (take used l)) ≡ take len (drop start l)
part_before used zero len l h = take-take len used l (omega arith)
part_before zero (suc start) len l h = absurd (omega arith)
part_before (suc used) (suc start) len [] h = refl
part_before (suc used) (suc start) len (b ∷ l) h = part_before used start len l (omega arith)

module _ (used more : ℕ) (tables new : List ℕ) (same : take used new ≡ take used tables) (on : used ≤ more) where
  still_there : (e : Entry) → e.start + e.length ≤ used → table_in new e ≡ table_in tables e
  still_there e h =
      sym (part_before used e.start e.length new h)
      ∙ ap (λ l. take e.length (drop e.start l)) same
      ∙ part_before used e.start e.length tables h

  one_kept : {line : List ℕ} {e : Entry} → Filed used tables line e → Filed more new line e
  one_kept {e = e} f =
      record {
        named = f.named;
        some = f.some;
        said = f.said;
        listed = f.listed;
        bytes = still_there e f.inside ∙ f.bytes;
        inside = omega (arith, f.inside);
      }

  -- what is written after the tables leaves them as they were
  pub all_kept : {lines : List (List ℕ)} {es : List Entry} → AllFiled used tables lines es → AllFiled more new lines es
  all_kept none = none
  all_kept (also f fs) = also (one_kept f) (all_kept fs)

module _ (used : ℕ) (tables : List ℕ) where
  pub file_behind : {lines : List (List ℕ)} {es : List Entry} (line : List ℕ) (e : Entry) → AllFiled used tables lines es → Filed used tables line e →
      AllFiled used tables (lines ++ (line ∷ [])) (es ++ (e ∷ []))
  file_behind line e none g = also g none
  file_behind line e (also f fs) g = also f (file_behind line e fs g)

  pub as_many : {lines : List (List ℕ)} {es : List Entry} → AllFiled used tables lines es → length es ≡ length lines
  as_many none = refl
  as_many (also f fs) = ap suc (as_many fs)

  -- the lines' identifiers are the entries'
  pub has_taken : {lines : List (List ℕ)} {es : List Entry} (id : ℕ) → AllFiled used tables lines es → has id es ≡ taken id lines
  unfolding has taken
  has_taken id none = refl
  has_taken id (also f fs) = rw (f.named, has_taken id fs)

  filed_at : {lines : List (List ℕ)} {es : List Entry} → AllFiled used tables lines es → (i : ℕ) → i < length es →
      (line : List ℕ) × Filed used tables line (entry_at es i)
  filed_at none i h = absurd (omega arith)
  filed_at (also {line = line} f fs) zero h = (line, f)
  filed_at (also f fs) (suc i) h = filed_at fs i (omega arith)

  -- the rules on entries
  module _ {lines : List (List ℕ)} {es : List Entry} (all : AllFiled used tables lines es) where
    pub none_zero : NoZero es (length es)
    none_zero i h e = let f = (filed_at all i h).1 in f.some (sym f.named ∙ e)

    pub all_within : used ≤ length tables → Within es tables (length es)
    all_within room i h = let f = (filed_at all i h).1 in omega (arith, f.inside)

    pub all_well_formed : WellFormed es tables (length es)
    all_well_formed i h =
        let line = (filed_at all i h).0 in
        let f = (filed_at all i h).1 in
        (ranges_of f.said, rw f.bytes (compiled_well_formed (list_in line) f.said f.listed))

-- the tables that hold a version are those of the lists that accept it
pub fitting_accepts : {used : ℕ} {tables : List ℕ} {lines : List (List ℕ)} {es : List Entry} → AllFiled used tables lines es → (text : List ℕ) →
    fitting tables text es ≡ acceptors lines text
unfolding fitting acceptors
fitting_accepts none text = refl
fitting_accepts (also {line = line} f fs) text =
    rw (
      f.bytes,
      table_agrees (list_in line) f.said f.listed text,
      f.named,
      fitting_accepts fs text,
    )
