-- A line of a register: an identifier, one blank, a list of clauses.
use Rattle.std.specs.Prelude.{◌≡◌, cond, List, ℕ, ◌+◌, ◌≤◌, eqb, ltb, length, take, drop, None, Ok, Some, Err}
use Rattle.chars.specs.Scan.{index_of}
use Rattle.decimal.specs.Parse.{Leading, leading_of}

-- the blank between the two
abbrev pub space : ℕ
space = 32

-- where the first one stands, or the line's end where there is none
abbrev pub space_at : List ℕ → ℕ
space_at line = index_of space line

pub record SpaceAt (line : List ℕ) (r : ℕ) : Type 0 where
  pub is : r ≡ space_at line
  pub within : r ≤ length line

-- a number of `digits` digits in a text of `size` bytes: an identifier if it is the whole text, and 16 bits can say it
abbrev pub id_where : ℕ → ℕ → ℕ → ℕ
id_where number digits size = cond (eqb digits size) (cond (ltb number 65536) number 0) 0

abbrev pub id_by : ℕ → Leading → ℕ
id_by size (Ok None) = 0
id_by size (Ok (Some (number, digits))) = id_where number digits size
id_by size (Err e) = 0

-- the identifier that a text says: digits and nothing else. 0 is none
unfoldable pub id_said : List ℕ → ℕ
id_said text = id_by (length text) (leading_of text)

-- the identifier of a line, which stands before its first blank; 0 where there is none, or no blank
unfoldable pub id_of : List ℕ → ℕ
id_of line = cond (ltb (space_at line) (length line)) (id_said (take (space_at line) line)) 0

-- the list of a line, which stands after its first blank
unfoldable pub list_in : List ℕ → List ℕ
list_in line = drop (space_at line + 1) line
