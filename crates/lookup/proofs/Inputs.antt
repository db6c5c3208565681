-- Whatever the reads bring at a time, the answers are those to the lines of the input: a line that is told in part is too long, and all such
-- lines have one answer. Assumes nothing.
use mathlib.Core.Path.{◌≡◌, refl, sym, ◌∙◌, ap}
use mathlib.Core.List.{List, [], ◌∷◌, map}
use Prim.Native.Nat.{ℕ, ◌<◌}
use native.Mathlib.Decide.{dec_lt}
use native.Mathlib.Omega.{arith}
use lib.ListN.{length}
use Rattle.answers.specs.Refusal.{refusal}
use Rattle.chars.specs.Text.{ascii}
use Rattle.version_reading.specs.declared.text.Verdict.TheVariants.{Refused}
use Rattle.version_reading.specs.Reading.{longest}
use Rattle.version_reading.specs.Value.{Value, value_in}
use Rattle.version.specs.Refusals.{Row}
use Rattle.version.proofs.Exactly.{version_refused_exactly}
use Rattle.list_clauses.specs.List.{list_of}
use Rattle.list_clauses.proofs.Lists.{listed_long}
use Rattle.table_reading.specs.Table.{Tabled, refused, ranges, table_of}
use Rattle.table_reading.specs.Lookup.{looked_up, looked}
use Rattle.lines.specs.Run.{Shown, AllShown}
use Rattle.answer_lines.specs.Text.{refusal_line}
use Rattle.lookup.specs.Answer.{answer_line}

abbrev pub line_for : List ℕ → List ℕ → List ℕ
line_for table version = answer_line (looked table version) version

-- the one answer to texts that are too long
abbrev long_line : Tabled → List ℕ
long_line (refused number place) = refusal_line (ascii "table refused ") (refusal number place)
long_line (ranges T) = refusal_line (ascii "refused ") (refusal 8 longest)

by_table : (t : Tabled) (w : Value) (version : List ℕ) → answer_line (looked_up t (Refused (refusal 8 longest)) w) version ≡ long_line t
by_table (refused number place) w version = refl
by_table (ranges T) w version = refl

long_answer : (table version : List ℕ) → longest < length version → line_for table version ≡ long_line (table_of table)
unfolding looked
long_answer table version long =
    rw ((version_refused_exactly version 8 longest).1 (Row.too_long long)) (by_table (table_of table) (value_in version) version)

module _ (line shown : List ℕ) (s : Shown longest line shown) where
  shown_as : {A : Type 0} (f : List ℕ → A) → ((x y : List ℕ) → longest < length x → longest < length y → f x ≡ f y) → f shown ≡ f line
  shown_as f alike =
      elim (dec_lt longest (length line)) [
        | yes long ↦ alike shown line (s.cut long) long
        | no short ↦ ap f (s.whole (omega arith))
      ]

  -- a version's line, and the list's
  pub shown_answer : (table : List ℕ) → line_for table shown ≡ line_for table line
  shown_answer table = shown_as (line_for table) (λ x y h g. long_answer table x h ∙ sym (long_answer table y g))

  pub shown_list : list_of shown ≡ list_of line
  shown_list = shown_as list_of (λ x y h g. sym (listed_long x h) ∙ listed_long y g)

-- all versions of an input
pub same_answers : (table : List ℕ) (lines shown : List (List ℕ)) → AllShown longest lines shown → map (line_for table) shown ≡ map (line_for table) lines
same_answers table [] [] s = refl
same_answers table [] (x ∷ shown) s = elim s [ ]
same_answers table (line ∷ lines) [] s = elim s [ ]
same_answers table (line ∷ lines) (x ∷ shown) s = rw (shown_answer line x s.0 table, same_answers table lines shown s.1)
