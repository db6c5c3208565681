-- Worked points: the lines of each kind of answer.
-- Assumes nothing.
use Rattle.answers.specs.declared.RefusedInput.TheVariants.{First, Second}
use Rattle.std.specs.Prelude.{Ok, Err}
use mathlib.Core.Path.{◌≡◌, refl}
use mathlib.Core.List.{List, [], ◌∷◌, ◌++◌, map}
use Prim.Native.Nat.{ℕ}
use Prim.Native.String.{String}
use Rattle.answers.specs.Refusal.{refusal}
use Rattle.chars.specs.Text.{ascii}
use Rattle.decimal.specs.Digits.{digits, decimal}
use Rattle.lines.specs.Window.{line_feed}
use Rattle.version_roundtrip.proofs.Extremes.{computed}
use Rattle.register_rules.specs.declared.lowest.Lowest.TheVariants.{Nothing, One, Two}
use Rattle.fits.specs.Answer.{fit_line, entry_line}

abbrev ended_line : String → List ℕ
ended_line s = ascii s ++ (line_feed ∷ [])

pub answers_said : map (λ f. fit_line f (ascii "v1.0-1")) (Ok Nothing ∷ Ok (One 7) ∷ Ok (Two 30 65535) ∷ Err (Second (refusal 5 3)) ∷ Err (First (refusal 18 2)) ∷ [])
    ≡ map ended_line ("none 1.0.post1" ∷ "7 1.0.post1" ∷ "several 30 65535 1.0.post1" ∷ "refused 5 at 3" ∷ "register refused 18 at 2" ∷ [])
unfolding computed decimal digits
answers_said = refl

pub entry_said : entry_line 65 (refusal 30 64) ≡ ended_line "entry 65 refused 30 at 64"
unfolding decimal digits
entry_said = refl
