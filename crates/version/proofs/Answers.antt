-- The cases of an answer, each with its equation: `elim (number_cases ..) [ .. ]` goes by cases and keeps what it found.
-- Assumes nothing.
use Rattle.std.specs.Prelude.{None, Some, Ok, Err}
use mathlib.Core.Path.{◌≡◌, refl, ap}
use mathlib.Core.Bool.{Bool, true, false}
use Prim.Native.Nat.{ℕ}
use Rattle.answers.specs.Refusal.{refusal}
use Rattle.version_parts.specs.Places.{NumberAt}
use Rattle.version_parts.specs.Suffix.{Step}
use Rattle.version.proofs.TooBig.{RefusedAt, RefusedPart}

pub data FlagCases (x : Bool) : Type 0 where
  holds : x ≡ true → FlagCases x
  fails : x ≡ false → FlagCases x

pub flag_cases : (x : Bool) → FlagCases x
flag_cases true = holds refl
flag_cases false = fails refl

-- a number whose digits begin at `at`
pub data NumberCases (at : ℕ) (x : NumberAt) : Type 0 where
  no_number : x ≡ Ok None → NumberCases at x
  a_number : (n next : ℕ) → x ≡ Ok (Some (n, next)) → NumberCases at x
  big_number : x ≡ Err (refusal 3 at) → NumberCases at x

pub number_cases : (at : ℕ) (x : NumberAt) → RefusedAt at x → NumberCases at x
number_cases at (Ok None) h = no_number refl
number_cases at (Ok (Some (n, next))) h = a_number n next refl
number_cases at (Err e) h = big_number (rw h)

-- a part of the suffix: what was read and the place after it, or where a number is too big
pub data StepCases {A : Type 0} (x : Step A) : Type 0 where
  a_part : (part : A) (next : ℕ) → x ≡ Ok (part, next) → StepCases x
  big_part : (d : ℕ) → x ≡ Err (refusal 3 d) → StepCases x

pub step_cases : {A : Type 0} (x : Step A) → RefusedPart x → StepCases x
step_cases (Ok (part, next)) h = a_part part next refl
step_cases (Err e) h = big_part e.place (ap Err h)
