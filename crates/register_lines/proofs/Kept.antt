-- What a line that is refused leaves: every byte of the buffer, whatever it was.
-- Assumes nothing.
use Rattle.std.specs.Prelude.{Result, Ok, Err}
use mathlib.Core.Path.{◌≡◌, refl, sym, ◌∙◌}
use mathlib.Core.Bool.{Bool, true, false}
use mathlib.Core.List.{List, ◌++◌}
use Prim.Native.Nat.{ℕ}
use native.Mathlib.Omega.{arith}
use lib.Dec.{ltb}
use lib.ListN.{length, take, drop, take-append-drop}
use Rattle.answers.specs.declared.Refusal.{Refusal}
use Rattle.answers.specs.Printed.{answer, filled, answer_if, filled_if}
use Rattle.list_clauses.specs.List.{Listing, refused, clauses, list_of}
use Rattle.list_ends.specs.Shape.{ranges_of}
use Rattle.table_reading.specs.Text.{table_text}
use Rattle.table_compile.specs.Compiled.{answer_to, filled_to}
use Rattle.register_entries.specs.Held.{entries_in}
use Rattle.register_lines.specs.declared.shelf.Shelf.{Shelf}
use Rattle.register_lines.specs.Line.{id_of, list_in}
use Rattle.register_lines.specs.Enter.{line_refusal, placed, put_answer, put_behind, entered_by, tables_by, entered, tables_after, Entering}

pub no_refusal : {shelf : Shelf} {x : Refusal} → ◌≡◌ {A = Result Shelf Refusal} (Ok shelf) (Err x) → ⊥
no_refusal e = let z : ◌≡◌ {A = ℕ} 0 1 = cc in omega arith

module _ (tables : List ℕ) (shelf : Shelf) (id : ℕ) (x : Refusal) where
  abbrev Kept : Result ℕ Refusal → List ℕ → Type 0
  Kept written behind = placed shelf id written ≡ Err x → take shelf.used tables ++ behind ≡ tables

  by_room : (text : List ℕ) (short : Bool) → Kept (answer_if short text) (filled_if short text (drop shelf.used tables))
  by_room text true h = take-append-drop shelf.used tables
  by_room text false h = absurd (no_refusal h)

  by_list : (l : Listing) → Kept (answer_to l (drop shelf.used tables)) (filled_to l (drop shelf.used tables))
  unfolding answer filled
  by_list (refused number place) h = take-append-drop shelf.used tables
  by_list (clauses cs) h = by_room (table_text (ranges_of cs)) (ltb (length (drop shelf.used tables)) (length (table_text (ranges_of cs)))) h

  by_early : (early : Result (Unit {0}) Refusal) (list : List ℕ) → entered_by early (placed shelf id (put_answer tables shelf.used list)) ≡ Err x →
      tables_by early (put_behind tables shelf.used list) tables ≡ tables
  by_early (Ok u) list h = by_list (list_of list) h
  by_early (Err y) list h = refl

pub refused_keeps : (tables : List ℕ) (shelf : Shelf) (line : List ℕ) (x : Refusal) → entered tables shelf line ≡ Err x → tables_after tables shelf line ≡ tables
unfolding entered tables_after
refused_keeps tables shelf line x h = by_early tables shelf (id_of line) x (line_refusal (entries_in shelf.held) (id_of line)) (list_in line) h

-- one answer and one buffer meet the statement
pub one_entering : {old line new new' : List ℕ} {shelf : Shelf} {r q : Result Shelf Refusal} → Entering old shelf line new r → Entering old shelf line new' q →
    (r ≡ q) × (new ≡ new')
one_entering p q = (p.answers ∙ sym q.answers, p.leaves ∙ sym q.leaves)
