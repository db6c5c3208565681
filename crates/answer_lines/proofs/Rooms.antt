-- Room for the next answer.
-- Assumes nothing.
use mathlib.Core.Path.{◌≡◌, ap, ◌∙◌}
use mathlib.Core.List.{List}
use Prim.Native.Nat.{ℕ, ◌+◌, ◌≤◌, max}
use native.Mathlib.Omega.{arith}
use lib.ListN.{length}
use Rattle.decimal.specs.Put.{Put}
use Rattle.decimal.proofs.Puts.{same_size}

-- a line that was put where there was room ends inside, and its buffer keeps its length
pub line_inside : {old middle text new : List ℕ} {at next size longest : ℕ} → length old ≡ size → longest ≤ size → middle ≡ old →
    at + longest ≤ max longest (length old) → Put longest middle at text new next → (next ≤ length new) × (length new ≡ size)
line_inside {old} {middle} {text} {new} {at} {next} {size} {longest} e wide same room p =
    let kept : length new ≡ size = same_size p.wrote ∙ (ap length same ∙ e) in (omega (arith, p.near, kept, e, room, wide), kept)
