-- Two results that meet the statement of `accepts` are the same.
-- Assumes nothing.
use Rattle.answers.specs.declared.RefusedInput.{RefusedInput}
use Rattle.std.specs.Prelude.{Result, Bool}
use mathlib.Core.Path.{◌≡◌}
use mathlib.Core.List.{List}
use Prim.Native.Nat.{ℕ}
use Rattle.version.proofs.Unique.{one_answer}
use Rattle.list_accepting.specs.Accept.{accepted}

pub one_acceptance : (s t : List ℕ) {r q : Result Bool RefusedInput} → r ≡ accepted s t → q ≡ accepted s t → r ≡ q
one_acceptance s t = one_answer
