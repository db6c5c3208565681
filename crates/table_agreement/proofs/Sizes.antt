-- How long a table can be, and that a buffer of that length is always long enough.
-- Assumes nothing.
use Rattle.answers.specs.declared.Refusal.{Refusal}
use Rattle.std.specs.Prelude.{Result, Ok}
use mathlib.Core.Path.{◌≡◌, ◌∙◌}
use mathlib.Core.List.{List}
use Prim.Native.Nat.{ℕ, ◌≤◌}
use native.Mathlib.Omega.{arith}
use lib.ListN.{length}
use borrow.Author.Tests.{le-ltb}
use Rattle.answers.specs.Printed.{answer}
use Rattle.list_clauses.specs.declared.clause.Clause.{Clause}
use Rattle.list_clauses.specs.List.{clauses, list_of}
use Rattle.list_ends.specs.Shape.{ranges_of}
use Rattle.list_ends.proofs.Tables.{ranges_most}
use Rattle.table_reading.specs.Text.{table_text}
use Rattle.table_compile.specs.Compiled.{Compiled}
use Rattle.table_compile.proofs.Sizes.{table_within}

module _ (s : List ℕ) (cs : List Clause) (e : list_of s ≡ clauses cs) where
  pub table_size : length (table_text (ranges_of cs)) ≤ 14660
  table_size = omega (arith, table_within s cs e, ranges_most s cs e)

  -- so a list that is accepted is compiled
  pub room_enough : (old new : List ℕ) (r : Result ℕ Refusal) → 14660 ≤ length old → Compiled s old new r → r ≡ Ok (length (table_text (ranges_of cs)))
  unfolding answer
  room_enough old new r room c =
      c.answers ∙ (rw (e, le-ltb (length old) (length (table_text (ranges_of cs))) (omega (arith, table_size))))
