-- The rows of the table of a version's and a pattern's refusals have the numbers 1 to 10.
-- Assumes nothing.
use mathlib.Core.Bool.{Bool}
use mathlib.Core.List.{List}
use Prim.Native.Nat.{ℕ, ◌≤◌}
use native.Mathlib.Omega.{arith}
use Rattle.version.specs.Refusals.{Fault, Row}

fault_numbers : {wildcards : Bool} {s : List ℕ} {n p : ℕ} → Fault wildcards s n p → (1 ≤ n) × (n ≤ 10)
fault_numbers (Fault.no_leading_number _) = omega arith
fault_numbers (Fault.no_release_number _ _ _) = omega arith
fault_numbers (Fault.leading_too_big _) = omega arith
fault_numbers (Fault.first_too_big _ _ _) = omega arith
fault_numbers (Fault.release_too_big _ _ _ _) = omega arith
fault_numbers (Fault.pre_too_big _ _ _ _) = omega arith
fault_numbers (Fault.post_too_big _ _ _ _) = omega arith
fault_numbers (Fault.dev_too_big _ _ _ _) = omega arith
fault_numbers (Fault.segment_empty _ _ _ _) = omega arith
fault_numbers (Fault.left_over _ _ _ _ _) = omega arith
fault_numbers (Fault.version_wildcard _ _ _ _) = omega arith
fault_numbers (Fault.not_trailing _ _ _ _ _) = omega arith
fault_numbers (Fault.too_many_numbers _ _ _ _ _) = omega arith
fault_numbers (Fault.too_many_segments _ _ _) = omega arith

pub refusal_numbers : {wildcards : Bool} {s : List ℕ} {n p : ℕ} → Row wildcards s n p → (1 ≤ n) × (n ≤ 10)
refusal_numbers (Row.too_long h) = omega arith
refusal_numbers (Row.within n p short f) = fault_numbers f
