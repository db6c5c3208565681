-- Two results that meet one statement are the same: each statement is an equation, or holds one.
-- Assumes nothing.
use Rattle.list_clauses.specs.declared.operator.Operator.{Operator}
use Rattle.answers.specs.declared.Refusal.{Refusal}
use Rattle.std.specs.Prelude.{Result, Option}
use mathlib.Core.Path.{◌≡◌}
use mathlib.Core.List.{List}
use Prim.Native.Nat.{ℕ}
use Rattle.version.proofs.Unique.{one_answer}
use Rattle.list_clauses.specs.declared.step.Part.{Part}
use Rattle.list_clauses.specs.declared.step.Step.{Step}
use Rattle.list_clauses.specs.Operator.{Operated}
use Rattle.list_clauses.specs.Step.{PartIs, StepIs}
use Rattle.list_clauses.specs.Commas.{Commas}
use Rattle.list_clauses.specs.List.{checked}

pub one_check : (s : List ℕ) {r q : Result ℕ Refusal} → r ≡ checked s → q ≡ checked s → r ≡ q
one_check s = one_answer

pub one_part : {s : List ℕ} {start : ℕ} {r q : Part} → PartIs s start r → PartIs s start q → r ≡ q
one_part p q = one_answer p.is q.is

pub one_step : {s : List ℕ} {start : ℕ} {r q : Step} → StepIs s start r → StepIs s start q → r ≡ q
one_step p q = one_answer p.is q.is

pub one_operator : {s : List ℕ} {spec r q : Option (Operator × ℕ)} → Operated s spec r → Operated s spec q → r ≡ q
one_operator p q = one_answer p.is q.is

pub one_comma_count : {s : List ℕ} {r q : ℕ} → Commas s r → Commas s q → r ≡ q
one_comma_count p q = one_answer p.is q.is
