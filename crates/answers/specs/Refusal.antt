-- A refusal, by its number and its place.
use Rattle.std.specs.Prelude.{ℕ}
use Rattle.answers.specs.declared.Refusal.{Refusal}

abbrev pub refusal : ℕ → ℕ → Refusal
refusal number place = record { number = number; place = place }
