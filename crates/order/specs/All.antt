-- Every element of a list. It stands in the lowest crate since both the crates of versions and those of ranges say it of their lists.
-- Definitions only; assumes nothing.
use Rattle.std.specs.Prelude.{List, [], ◌∷◌}

-- each element of the list has the property
abbrev pub All : {A : Type 0} → (A → Type 0) → List A → Type 0
All Q [] = Unit {0}
All Q (x ∷ l) = Q x × All Q l
