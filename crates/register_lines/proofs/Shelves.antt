-- A shelf that came of lines: what holds of it, and what comes of one line more.
-- Assumes nothing.
use Rattle.std.specs.Prelude.{Result, Ok, Err}
use mathlib.Core.Path.{◌≡◌, refl, sym, ◌∙◌, ap}
use mathlib.Core.Bool.{false, cond}
use mathlib.Core.List.{List, [], ◌∷◌, ◌++◌}
use Prim.Native.Nat.{ℕ, ◌+◌, ◌*◌, ◌≤◌, ◌<◌}
use native.Mathlib.Decide.{dec_lt, ℕ_discrete}
use native.Mathlib.Omega.{arith}
use lib.Dec.{eqb, ltb}
use lib.ListN.{length, take, drop, length-append, length-drop, get_or-append, take-append-drop}
use lib.Seq.{take_all, take_at, drop_at, take-append-le, take-append_seam, length-take-le, get_or-append_seam}
use borrow.Author.Tests.{lt-ltb, le-ltb, eq-eqb, ne_eqb}
use Rattle.answers.specs.declared.Refusal.{Refusal}
use Rattle.answers.specs.Refusal.{refusal}
use Rattle.answers.specs.Printed.{answer, filled}
use Rattle.version.proofs.Answers.{flag_cases, holds, fails}
use Rattle.list_clauses.specs.declared.clause.Clause.{Clause}
use Rattle.list_clauses.specs.List.{Listing, refused, clauses, list_of}
use Rattle.list_ends.specs.Shape.{ranges_of}
use Rattle.table_reading.specs.Text.{table_text}
use Rattle.table_agreement.proofs.Sizes.{table_size}
use Rattle.register_entries.specs.declared.entry.Entry.{Entry}
use Rattle.register_entries.specs.Held.{entry_of as entry_of, blank, held_of, entries_in, with_entry, has}
use Rattle.register_entries.proofs.Holding.{entries_again, one_more as one-held}
use Rattle.register_rules.specs.Guilt.{entry_at}
use Rattle.register_rules.specs.Fit.{most}
use Rattle.register_lines.specs.declared.shelf.Shelf.{Shelf}
use Rattle.register_lines.specs.Line.{id_of, list_in}
use Rattle.register_lines.specs.Enter.{empty_shelf, line_refusal, placed, entered, tables_after}
use Rattle.register_lines.specs.Shelved.{room_for_all, Shelved, nothing, one_more, taken, refusal_behind}
use Rattle.register_lines.proofs.Numbers.{Proper, behind_eleven, list_proper}
use Rattle.register_lines.proofs.Kept.{no_refusal}
use Rattle.register_lines.proofs.Filed.{Filed, AllFiled, none, all_kept, file_behind, as_many, has_taken}

one_shelf : {s t : Shelf} → ◌≡◌ {A = Result Shelf Refusal} (Ok s) (Ok t) → s ≡ t
one_shelf e = cc

-- no two entries have one identifier
abbrev pub Apart : List Entry → Type 0
Apart es = (i : ℕ) → i < length es → has (entry_at es i).id (take i es) ≡ false

pub record InOrder (lines : List (List ℕ)) (tables : List ℕ) (shelf : Shelf) : Type 0 where
  pub es : List Entry
  pub held : shelf.held ≡ held_of es
  pub filed : AllFiled shelf.used tables lines es
  pub apart : Apart es
  pub few : length es ≤ most
  pub short : shelf.used ≤ 14660 * length es
  pub room : room_for_all ≤ length tables

pub held_are : {lines : List (List ℕ)} {tables : List ℕ} {shelf : Shelf} (s : InOrder lines tables shelf) → entries_in shelf.held ≡ s.es
held_are s = ap entries_in s.held ∙ entries_again s.es ∙ take_all 65 s.es (omega (arith, s.few))

apart_behind : (es : List Entry) (e : Entry) → Apart es → has e.id es ≡ false → Apart (es ++ (e ∷ []))
apart_behind es e apart new i h =
    elim (dec_lt i (length es)) [
      | yes l ↦ rw (get_or-append es (e ∷ []) blank i l, take-append-le i es (e ∷ []) (omega arith)) (apart i l)
      | no l ↦
          let last : i ≡ length es = omega (arith, length-append es (e ∷ [])) in
          rw (last, get_or-append_seam es e [] blank, take-append_seam es (e ∷ [])) new
    ]

-- what lies in a buffer once a text was put in at a place
module _ (tables text : List ℕ) (used : ℕ) (fits : used + length text ≤ length tables) where
  abbrev pub put : List ℕ
  put = take used tables ++ (text ++ drop (length text) (drop used tables))

  front_long : length (take used tables) ≡ used
  front_long = length-take-le used tables (omega arith)

  pub put_front : take used put ≡ take used tables
  put_front = take_at (take used tables) (text ++ drop (length text) (drop used tables)) used front_long

  pub put_there : take (length text) (drop used put) ≡ text
  put_there =
      rw (drop_at (take used tables) (text ++ drop (length text) (drop used tables)) used front_long)
      (take-append_seam text (drop (length text) (drop used tables)))

  pub put_long : length put ≡ length tables
  put_long =
      let rest = drop (length text) (drop used tables) in
      omega (
        arith,
        front_long,
        length-append (take used tables) (text ++ rest),
        length-append text rest,
        length-drop (length text) (drop used tables),
        length-drop used tables,
      )

-- what comes of one line more
pub data Outcome (lines : List (List ℕ)) (tables : List ℕ) (shelf : Shelf) (line : List ℕ) : Type 0 where
  turned_away : (x : Refusal) → Proper x.number → x ≡ refusal_behind lines line → entered tables shelf line ≡ Err x →
      tables_after tables shelf line ≡ tables → Outcome lines tables shelf line
  stored : (cs : List Clause) → list_of (list_in line) ≡ clauses cs → length lines < most → (id_of line ≡ 0 → ⊥) → taken (id_of line) lines ≡ false →
      refusal 0 0 ≡ refusal_behind lines line →
      entered tables shelf line ≡ placed shelf (id_of line) (Ok (length (table_text (ranges_of cs)))) →
      tables_after tables shelf line
      ≡ take shelf.used tables ++ (table_text (ranges_of cs) ++ drop (length (table_text (ranges_of cs))) (drop shelf.used tables)) →
      Outcome lines tables shelf line

module _ (lines : List (List ℕ)) (tables : List ℕ) (shelf : Shelf) (s : InOrder lines tables shelf) (line : List ℕ) where
  -- the refusal that does not depend on the list, by the lines
  early : Result (Unit {0}) Refusal
  early =
      cond (ltb (length lines) most)
      (cond (eqb (id_of line) 0) (Err (refusal 31 0)) (cond (taken (id_of line) lines) (Err (refusal 32 0)) (Ok tt)))
      (Err (refusal 30 most))

  early_is : line_refusal (entries_in shelf.held) (id_of line) ≡ early
  unfolding early
  early_is = rw (held_are s, as_many shelf.used tables s.filed, has_taken shelf.used tables (id_of line) s.filed)

  away : (x : Refusal) → Proper x.number → early ≡ Err x → x ≡ refusal_behind lines line → Outcome lines tables shelf line
  unfolding entered tables_after
  away x p e f = turned_away x p f (rw (early_is, e)) (rw (early_is, e))

  module _ (few : length lines < most) (some : id_of line ≡ 0 → ⊥) (new : taken (id_of line) lines ≡ false) where
    none_early : early ≡ Ok tt
    unfolding early
    none_early = rw (lt-ltb (length lines) most few, ne_eqb (id_of line) 0 some, new)

    by_list : (l : Listing) → list_of (list_in line) ≡ l → Outcome lines tables shelf line
    unfolding entered tables_after answer filled
    by_list (refused n p) e =
        turned_away (refusal n p) (list_proper (list_in line) n p e)
        (rw (lt-ltb (length lines) most few, ne_eqb (id_of line) 0 some, new, e))
        (rw (early_is, none_early, e))
        (rw (early_is, none_early, e) (take-append-drop shelf.used tables))
    by_list (clauses cs) e =
        let text = table_text (ranges_of cs) in
        let size = table_size (list_in line) cs e in
        let wide : length text ≤ length (drop shelf.used tables) =
        omega (arith, size, length-drop shelf.used tables, s.short, s.room, as_many shelf.used tables s.filed) in
        let enough = le-ltb (length (drop shelf.used tables)) (length text) wide in
        stored cs e few some new
        (rw (lt-ltb (length lines) most few, ne_eqb (id_of line) 0 some, new, e))
        (rw (early_is, none_early, e, enough))
        (rw (early_is, none_early, e, enough))

  pub outcome : Outcome lines tables shelf line
  unfolding early
  outcome =
      elim (dec_lt (length lines) most) [
        | no h ↦
            let full = le-ltb (length lines) most (omega arith) in
            away (refusal 30 most) (behind_eleven 30 (omega arith)) (rw full) (rw full)
        | yes h ↦
            let fits = lt-ltb (length lines) most h in
            elim (ℕ_discrete (id_of line) 0) [
              | yes z ↦ let none = eq-eqb (id_of line) 0 z in away (refusal 31 0) (behind_eleven 31 (omega arith)) (rw (fits, none)) (rw (fits, none))
              | no z ↦
                  let some = ne_eqb (id_of line) 0 z in
                  elim (flag_cases (taken (id_of line) lines)) [
                    | holds t ↦ away (refusal 32 0) (behind_eleven 32 (omega arith)) (rw (fits, some, t)) (rw (fits, some, t))
                    | fails t ↦ by_list h z t (list_of (list_in line)) refl
                  ]
            ]
      ]

  module _ (cs : List Clause) (e : list_of (list_in line) ≡ clauses cs) (few : length lines < most) (some : id_of line ≡ 0 → ⊥)
      (new : taken (id_of line) lines ≡ false) where
    abbrev text : List ℕ
    text = table_text (ranges_of cs)

    abbrev entry : Entry
    entry = entry_of (id_of line) shelf.used (length text)

    wide : shelf.used + length text ≤ length tables
    wide = omega (arith, table_size (list_in line) cs e, s.short, s.room, as_many shelf.used tables s.filed)

    abbrev after : List ℕ
    after = put tables text shelf.used wide

    entry_filed : Filed (shelf.used + length text) after line entry
    entry_filed =
        record {
          named = refl;
          some = some;
          said = cs;
          listed = e;
          bytes = put_there tables text shelf.used wide;
          inside = omega arith;
        }

    one_behind : InOrder (lines ++ (line ∷ [])) after (record { held = with_entry shelf.held entry; used = shelf.used + length text })
    one_behind =
        let size = table_size (list_in line) cs e in
        let many = as_many shelf.used tables s.filed in
        let longer = length-append s.es (entry ∷ []) in
        let kept = all_kept shelf.used (shelf.used + length text) tables after (put_front tables text shelf.used wide) (omega arith) s.filed in
        record {
          es = s.es ++ (entry ∷ []);
          held = ap (λ h. with_entry h entry) s.held ∙ one-held s.es entry;
          filed = file_behind (shelf.used + length text) after line entry kept entry_filed;
          apart = apart_behind s.es entry s.apart (has_taken shelf.used tables (id_of line) s.filed ∙ new);
          few = omega (arith, longer, many, few);
          short = omega (arith, longer, size, s.short);
          room = omega (arith, s.room, put_long tables text shelf.used wide);
        }

  pub in_order_behind : (more : Shelf) → entered tables shelf line ≡ Ok more → InOrder (lines ++ (line ∷ [])) (tables_after tables shelf line) more
  in_order_behind more is =
      elim outcome [
        | turned_away x p same e f ↦ absurd (no_refusal (sym is ∙ e))
        | stored cs l few some new same e f ↦ rw (f, one_shelf (sym is ∙ e)) (one_behind cs l few some new)
      ]

none_apart : Apart []
none_apart i h = absurd (omega arith)

pub in_order : {lines : List (List ℕ)} {tables : List ℕ} {shelf : Shelf} → Shelved lines tables shelf → InOrder lines tables shelf
unfolding empty_shelf
in_order (nothing tables room) =
    record { es = []; held = refl; filed = none; apart = none_apart; few = omega arith; short = omega arith; room = room }
in_order (one_more lines tables shelf line more before e) = in_order_behind lines tables shelf (in_order before) line more e
