-- What gathering a register from lines comes to.
use Rattle.std.specs.Prelude.{◌≡◌, List, Option, Some, None, Result, Ok, Err, ℕ, suc, length}
use Rattle.register_lines.specs.declared.shelf.Shelf.{Shelf}
use Rattle.register_lines.specs.Shelved.{Shelved, refusal_behind}
use Rattle.fits.specs.declared.gather.RefusedLine.{RefusedLine}

-- the shelf that these lines make, entered one after the other
pub record Standing (tables : List ℕ) (shelf : Shelf) (count : ℕ) : Type 0 where
  pub lines : List (List ℕ)
  pub shelved : Shelved lines tables shelf
  pub counted : count ≡ length lines

-- the shelf before the versions is that of the lines; a line that is refused is the next one, and refused by its own rule
abbrev pub EndedBehind : List (List ℕ) → Shelf → Result (Option Shelf) RefusedLine → Type 0
EndedBehind lines shelf (Ok (Some s)) = s ≡ shelf
EndedBehind lines shelf (Ok None) = Unit {0}
EndedBehind lines shelf (Err x) = (line : List ℕ) × ((x.number ≡ suc (length lines)) × (x.refusal ≡ refusal_behind lines line))

pub record Gathering (tables : List ℕ) (r : Result (Option Shelf) RefusedLine) : Type 0 where
  pub lines : List (List ℕ)
  pub shelf : Shelf
  pub shelved : Shelved lines tables shelf
  pub ended : EndedBehind lines shelf r
