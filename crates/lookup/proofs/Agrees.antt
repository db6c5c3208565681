-- The program's promise: the answer to a version is that of the list itself, clause by clause, though the program asks the table.
-- Assumes nothing.
use Rattle.std.specs.Prelude.{Ok}
use mathlib.Core.Path.{◌≡◌, ap}
use mathlib.Core.List.{List}
use Prim.Native.Nat.{ℕ}
use lib.ListN.{take}
use Rattle.list_accepting.specs.Accept.{accepted}
use Rattle.table_compile.specs.Compiled.{Compiled}
use Rattle.table_reading.specs.Lookup.{looked}
use Rattle.table_agreement.proofs.Agreement.{agreement}
use Rattle.lookup.specs.Answer.{answer_line}

pub answers_agree : (list old new : List ℕ) (n : ℕ) → Compiled list old new (Ok n) → (version : List ℕ) →
    answer_line (looked (take n new) version) version ≡ answer_line (accepted list version) version
answers_agree list old new n c version = ap (λ l. answer_line l version) (agreement list old new n c version)
