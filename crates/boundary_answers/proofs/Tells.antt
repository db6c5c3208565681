-- What was told of an answer was told of an equal one; and what is told where a must-fail edit aims, by the answer that a match found.
-- Assumes nothing.
use Rattle.answers.specs.declared.RefusedInput.TheVariants.{Second}
use Rattle.std.specs.declared.cmp.Ordering.{Ordering as Order}
use Rattle.answers.specs.declared.RefusedInput.{RefusedInput}
use Rattle.std.specs.Prelude.{Result, Err, Option, None, Some}
use mathlib.Core.Path.{◌≡◌, subst}
use mathlib.Core.Bool.{false}
use mathlib.Core.List.{List}
use Prim.Native.Nat.{ℕ, ◌+◌, ◌*◌}
use Rattle.answers.specs.declared.Refusal.{Refusal}
use Rattle.version_reading.specs.declared.text.Verdict.{Verdict}
use Rattle.register_rules.specs.declared.lowest.Lowest.{Lowest}
use Rattle.register_rules.specs.declared.lowest.Lowest.TheVariants.{Two}
use Rattle.boundary_answers.specs.declared.said.Said.{Said}
use Rattle.boundary_answers.specs.Said.{Told, answered, refused_of, not_yet, of_verdict, of_says, of_compared, of_lowest}

pub told_as : {x y : Said} {answer : List ℕ} {r : ℕ} → Told x answer r → x ≡ y → Told y answer r
told_as {answer = answer} {r} told e = subst (λ (said : Said). Told said answer r) e told

pub given_told : (says : Option Verdict) (verdict : Verdict) (x : Said) → says ≡ Some verdict → x ≡ of_verdict verdict false → x ≡ of_says says
given_told says verdict x e f = rw e f

pub silent_told : (says : Option Verdict) (x : Said) → says ≡ None → x ≡ not_yet → x ≡ of_says says
silent_told says x e f = rw e f

pub second_told : (compared : Result Order RefusedInput) (refusal : Refusal) (x : Said) → compared ≡ Err (Second refusal) → x ≡ refused_of 2 refusal → x ≡ of_compared compared
second_told compared refusal x e f = rw e f

pub two_told : (lowest : Lowest) (a b : ℕ) (x : Said) → lowest ≡ Two a b → x ≡ answered (a + 65536 * b) → x ≡ of_lowest lowest
two_told lowest a b x e f = rw e f
