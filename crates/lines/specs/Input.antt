-- What reading on does to a buffer and its window. Of the bytes that come nothing can be said.
use Rattle.std.specs.Prelude.{◌≡◌, Bool, true, false, List, ◌++◌, ℕ, ◌-◌, ◌≤◌, eqb, length, take, drop}
use Rattle.lines.specs.declared.window.Window.{Window}
use Rattle.lines.specs.declared.window.Found.{Found}
use Rattle.lines.specs.declared.window.Found.TheVariants.{Line, More, End}
use Rattle.lines.specs.declared.window.Next.{Next}
use Rattle.lines.specs.Window.{held, front, text_of}

-- the part from start to end stands at the front, and all after that is as it was
pub record Slid (old : List ℕ) (start end : ℕ) (new : List ℕ) (r : ℕ) : Type 0 where
  pub count : r ≡ length (take (end - start) (drop start old))
  pub moved : new ≡ take (end - start) (drop start old) ++ drop r old

-- bytes came from a place on, up to `r`
pub record Behind (old : List ℕ) (at : ℕ) (new : List ℕ) (r : ℕ) : Type 0 where
  pub before : take at new ≡ take at old
  pub onward : at ≤ r
  pub within : r ≤ length new

-- what was held stands at the front of the buffer, and what came after it; if nothing came the input has ended
pub record ReadOn (old : List ℕ) (w : Window) (new : List ℕ) (r : Window) : Type 0 where
  pub first : r.start ≡ 0
  pub kept : take (length (held old w)) new ≡ held old w
  pub onward : length (held old w) ≤ r.end
  pub within : r.end ≤ length new
  pub cut : r.cut ≡ w.cut
  pub done : r.done ≡ eqb r.end (length (held old w))

-- r is the line at the front of some window of the buffer, or the end
pub record Told (buffer : List ℕ) (longest : ℕ) (r : Next) : Type 0 where
  pub window : Window
  pub is : r ≡ front buffer window longest

-- what was found, and the window after it
abbrev pub next_of : Found → Window → Next
next_of found window = record { found = found; window = window }

abbrev pub is_line : Found → Bool
is_line (Line start end) = true
is_line More = false
is_line End = false

-- before the first line
abbrev pub nothing_found : Found
nothing_found = More

-- a line that was told, of some buffer
pub record ToldLine (longest : ℕ) (line : List ℕ) : Type 0 where
  pub buffer : List ℕ
  pub next : Next
  pub told : Told buffer longest next
  pub is : line ≡ text_of buffer next.found
