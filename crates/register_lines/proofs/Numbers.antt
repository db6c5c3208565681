-- The numbers with which a list is refused: none is 0, and none is 11.
-- Assumes nothing.
use mathlib.Core.Path.{◌≡◌}
use mathlib.Core.List.{List}
use Prim.Native.Nat.{ℕ, ◌≤◌}
use native.Mathlib.Omega.{arith}
use lib.ListN.{length, length-drop}
use Rattle.version_reading.specs.Reading.{longest}
use Rattle.version.specs.Refusals.{Row as PatternRow}
use Rattle.version.proofs.Numbers.{refusal_numbers}
use Rattle.list_clauses.specs.Step.{part_start, part_bytes}
use Rattle.list_clauses.specs.List.{refused, list_of}
use Rattle.list_clauses.specs.Refusals.{Fault, Row}
use Rattle.list_clauses.proofs.Rows.{part_short, row_of_refusal}

pub record Proper (number : ℕ) : Type 0 where
  pub some : number ≡ 0 → ⊥
  pub other : number ≡ 11 → ⊥

proper : (number : ℕ) → 1 ≤ number → number ≤ 10 → Proper number
proper number h g = record { some = λ e. omega arith; other = λ e. omega arith }

pub behind_eleven : (number : ℕ) → 12 ≤ number → Proper number
behind_eleven number h = record { some = λ e. omega arith; other = λ e. omega arith }

fault_proper : (t : List ℕ) (start from : ℕ) {n p : ℕ} → length t ≤ longest → Fault t start from n p → Proper n
fault_proper t start from short (Fault.empty e) = behind_eleven 12 (omega arith)
fault_proper t start from short (Fault.no_operator some e) = behind_eleven 13 (omega arith)
fault_proper t start from short (Fault.in_pattern o width n p a f) =
    let bounds = refusal_numbers (PatternRow.within n p (omega (arith, length-drop width t)) f) in
    proper n bounds.0 bounds.1
fault_proper t start from short (Fault.stray_wildcard_there o width r a e) = behind_eleven 14 (omega arith)
fault_proper t start from short (Fault.labelled o width r a e f) = behind_eleven 15 (omega arith)
fault_proper t start from short (Fault.too_short o width r a e f g) = behind_eleven 16 (omega arith)

row_proper : (s : List ℕ) {n p : ℕ} → Row s n p → Proper n
row_proper s (Row.too_long h) = proper 8 (omega arith) (omega arith)
row_proper s (Row.too_many start short b) = behind_eleven 17 (omega arith)
row_proper s (Row.in_clause count start n p short b few f) = fault_proper (part_bytes s start) start (part_start s start) (part_short s short start) f

pub list_proper : (s : List ℕ) (n p : ℕ) → list_of s ≡ refused n p → Proper n
list_proper s n p e = row_proper s (row_of_refusal s n p e)
