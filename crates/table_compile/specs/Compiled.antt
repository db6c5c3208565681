-- What compiling a list answers and leaves after: the list's refusal first, and 11 last.
use Rattle.answers.specs.declared.Refusal.{Refusal}
use Rattle.std.specs.Prelude.{◌≡◌, List, ℕ, Result, Err}
use Rattle.answers.specs.Refusal.{refusal}
use Rattle.answers.specs.Printed.{answer, filled}
use Rattle.list_clauses.specs.List.{Listing, refused, clauses, list_of}
use Rattle.list_ends.specs.Shape.{ranges_of}
use Rattle.table_reading.specs.Text.{table_text}

abbrev pub answer_to : Listing → List ℕ → Result ℕ Refusal
answer_to (refused number place) buf = Err (refusal number place)
answer_to (clauses cs) buf = answer (table_text (ranges_of cs)) buf

abbrev pub filled_to : Listing → List ℕ → List ℕ
filled_to (refused number place) buf = buf
filled_to (clauses cs) buf = filled (table_text (ranges_of cs)) buf

pub record Compiled (s old new : List ℕ) (r : Result ℕ Refusal) : Type 0 where
  pub answers : r ≡ answer_to (list_of s) old
  pub leaves : new ≡ filled_to (list_of s) old
