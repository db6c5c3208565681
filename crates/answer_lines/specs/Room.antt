-- Where the next answer goes.
use Rattle.std.specs.Prelude.{Bool, true, false, List, ℕ, ◌+◌, ◌≤◌, ◌<◌, max, length, Option, Some, None}

-- after those that are there, if they leave room for the longest; else, once they are written, at the front, unless they can't be
pub data Roomed (out : List ℕ) (end longest : ℕ) : Option ℕ → Type 0 where
  behind : end + longest ≤ length out → Roomed out end longest (Some end)
  emptied : length out < end + longest → Roomed out end longest (Some 0)
  closed : length out < end + longest → Roomed out end longest None

-- where the text then ends, if there is room for the next
abbrev pub made : Bool → ℕ → Option ℕ
made true end = Some end
made false end = None

abbrev pub room_at : Option ℕ → ℕ
room_at (Some n) = n
room_at None = 0

pub record RoomFor (out : List ℕ) (end longest : ℕ) (r : Option ℕ) : Type 0 where
  pub is : Roomed out end longest r
  pub within : room_at r + longest ≤ max longest (length out)
