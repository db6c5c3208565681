-- The ways of entering a line.
-- Assumes nothing.
use Rattle.std.specs.Prelude.{Result, Ok, Err}
use mathlib.Core.Path.{◌≡◌, refl, sym, ◌∙◌, ap}
use mathlib.Core.Bool.{Bool, true, false}
use mathlib.Core.List.{List, [], ◌∷◌, ◌++◌, append-nil}
use Prim.Native.Nat.{ℕ, suc, ◌+◌, ◌-◌, ◌≤◌, ◌<◌}
use native.Mathlib.Omega.{arith}
use lib.Dec.{ltb}
use lib.ListN.{length, take, drop, drop_of_length-le, length-drop}
use lib.Seq.{take_all, length-take-le}
use borrow.Author.Tests.{ltb-false}
use borrow.Rule.Slice.PartMut.{put_mid, mid_of}
use Rattle.chars.proofs.Parts.{take_rest}
use Rattle.answers.specs.declared.Refusal.{Refusal}
use Rattle.answers.specs.Printed.{answer, filled, answer_if, filled_if}
use Rattle.list_clauses.specs.List.{Listing, refused, clauses, list_of}
use Rattle.list_ends.specs.Shape.{ranges_of}
use Rattle.table_reading.specs.Text.{table_text}
use Rattle.table_compile.specs.Compiled.{answer_to, filled_to, Compiled}
use Rattle.register_entries.specs.declared.entry.Entry.{Entry}
use Rattle.register_entries.specs.declared.held.Held.{Held}
use Rattle.register_entries.specs.Held.{entry_of, entries_in, with_entry}
use Rattle.register_lines.specs.declared.shelf.Shelf.{Shelf}
use Rattle.register_lines.specs.Line.{id_of, list_in}
use Rattle.register_lines.proofs.Kept.{refused_keeps}
use Rattle.register_lines.specs.Enter.{line_refusal, end_behind, ListPut, placed, entered, tables_after, Entering}

-- what a list's answer ends at, in a buffer of `size` bytes
ends_if : (used size : ℕ) (text : List ℕ) (short : Bool) → ltb size (length text) ≡ short → end_behind used (answer_if short text) ≤ used + size
ends_if used size text true e = omega arith
ends_if used size text false e = omega (arith, ltb-false size (length text) e)

ends_by : (used : ℕ) (buffer : List ℕ) (l : Listing) → end_behind used (answer_to l buffer) ≤ used + length buffer
unfolding answer
ends_by used buffer (refused number place) = omega arith
ends_by used buffer (clauses cs) = ends_if used (length buffer) (table_text (ranges_of cs)) (ltb (length buffer) (length (table_text (ranges_of cs)))) refl

nothing_if : (text : List ℕ) (short : Bool) → ltb 0 (length text) ≡ short → filled_if short text [] ≡ []
nothing_if text true e = refl
nothing_if [] false e = refl
nothing_if (b ∷ text) false e = let h : suc (length text) ≤ 0 = ltb-false 0 (suc (length text)) e in absurd (omega arith)

-- a buffer of no bytes stays so
nothing_filled : (l : Listing) → filled_to l [] ≡ []
unfolding filled
nothing_filled (refused number place) = refl
nothing_filled (clauses cs) = nothing_if (table_text (ranges_of cs)) (ltb 0 (length (table_text (ranges_of cs)))) refl

-- `put_list`
module _ (tables : List ℕ) (used : ℕ) (list : List ℕ) (r : Result ℕ Refusal) where
  pub list_past : (old new : List ℕ) → length tables < used → old ≡ [] → Compiled list old new r → ListPut tables used list tables r
  list_past old new h e c =
      let past : length tables ≤ used = omega arith in
      let none : drop used tables ≡ [] = drop_of_length-le tables past in
      record {
        answers = rw none (rw e at c.answers);
        leaves = rw (none, nothing_filled (list_of list), append-nil, take_all used tables past);
        within = let z = ends_by used old (list_of list) in rw c.answers (omega (arith, z, ap length e));
      }

  pub list_put : (new : List ℕ) → used ≤ length tables → Compiled list (mid_of used (length tables - used) tables) new r →
      ListPut tables used list (put_mid used (length tables - used) tables new) r
  list_put new h c =
      let part : mid_of used (length tables - used) tables ≡ drop used tables = take_rest tables used in
      let all : length (drop used tables) ≤ length tables - used = omega (arith, length-drop used tables) in
      let none : drop (length tables - used) (drop used tables) ≡ [] = drop_of_length-le (drop used tables) all in
      let d : Compiled list (drop used tables) new r = rw part at c in
      record {
        answers = d.answers;
        leaves = rw (none, append-nil new) (ap (λ l. take used tables ++ l) d.leaves);
        within = let z = ends_by used (drop used tables) (list_of list) in rw d.answers (omega (arith, z, length-drop used tables));
      }

-- as many are held as the count says
pub count_is : (held : Held) → length held.list ≡ 65 → held.count ≤ 65 → length (entries_in held) ≡ held.count
unfolding entries_in
count_is held long h = length-take-le held.count held.list (omega arith)

-- `enter`, by the refusal that does not depend on the list and by the list's answer
module _ (tables : List ℕ) (shelf : Shelf) (line : List ℕ) (id : ℕ) (es : List Entry) (early : Result (Unit {0}) Refusal) (named : id ≡ id_of line)
    (lent : es ≡ entries_in shelf.held) (told : early ≡ line_refusal es id) where
  is : early ≡ line_refusal (entries_in shelf.held) id
  is = rw lent at told

  pub enter_refused : (x : Refusal) → early ≡ Err x → Entering tables shelf line tables (Err x)
  unfolding entered tables_after
  enter_refused x e =
      let f : line_refusal (entries_in shelf.held) (id_of line) ≡ Err x = rw (← named) (sym is ∙ e) in
      record { answers = rw f; leaves = rw f; kept = λ y h. refl }

  module _ (u : Unit {0}) (free : early ≡ Ok u) (list new : List ℕ) (written : Result ℕ Refusal) (listed : list ≡ list_in line)
      (put : ListPut tables shelf.used list new written) where
    no_early : line_refusal (entries_in shelf.held) (id_of line) ≡ Ok u
    no_early = rw (← named) (sym is ∙ free)

    answered : placed shelf id written ≡ entered tables shelf line
    unfolding entered
    answered = let p : ListPut tables shelf.used (list_in line) new written = rw listed at put in rw (no_early, ← named, ← p.answers)

    left : new ≡ tables_after tables shelf line
    unfolding tables_after
    left = let p : ListPut tables shelf.used (list_in line) new written = rw listed at put in rw no_early p.leaves

    by_answer : (r : Result Shelf Refusal) → r ≡ placed shelf id written → Entering tables shelf line new r
    by_answer r e =
        record {
          answers = e ∙ answered;
          leaves = left;
          kept = λ x f. left ∙ refused_keeps tables shelf line x (sym (e ∙ answered) ∙ f);
        }

    pub enter_unwritten : (x : Refusal) → written ≡ Err x → Entering tables shelf line new (Err x)
    enter_unwritten x e = by_answer (Err x) (rw e)

    pub enter_placed : (n : ℕ) (held : Held) → written ≡ Ok n → held ≡ with_entry shelf.held (entry_of id shelf.used n) →
        Entering tables shelf line new (Ok (record { held = held; used = shelf.used + n }))
    enter_placed n held e f = by_answer (Ok (record { held = held; used = shelf.used + n })) (rw (e, f))
