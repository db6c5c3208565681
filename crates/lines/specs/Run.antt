-- A whole run: the lines of an input, and what is told of them when it comes in parts, however these are cut.
use Rattle.std.specs.Prelude.{◌≡◌, true, cond, List, [], ◌∷◌, ◌++◌, ℕ, ◌≤◌, ◌<◌, eqb, length, take}
use Rattle.lines.specs.declared.window.Window.{Window}
use Rattle.lines.specs.declared.window.Found.TheVariants.{Line, More, End}
use Rattle.lines.specs.Window.{line_feed, held, front, past_cut, text_of}
use Rattle.lines.specs.Input.{ReadOn}

-- a byte in front of the first line
abbrev pub joined : ℕ → List (List ℕ) → List (List ℕ)
joined b [] = (b ∷ []) ∷ []
joined b (line ∷ lines) = (b ∷ line) ∷ lines

-- the lines of a text: each ends at its line feed, the last one also at the end
unfoldable pub lines_of : List ℕ → List (List ℕ)
lines_of [] = []
lines_of (b ∷ text) = cond (eqb b line_feed) ([] ∷ lines_of text) (joined b (lines_of text))

-- what is told of a line: all of it, or, of one that is too long, a beginning that is too long itself
pub record Shown (longest : ℕ) (line shown : List ℕ) : Type 0 where
  pub whole : length line ≤ longest → shown ≡ line
  pub cut : longest < length line → longest < length shown
  pub beginning : shown ≡ take (length shown) line

-- one for one
abbrev pub AllShown : ℕ → List (List ℕ) → List (List ℕ) → Type 0
AllShown longest [] [] = Unit {0}
AllShown longest [] (shown ∷ rest) = ⊥
AllShown longest (line ∷ lines) [] = ⊥
AllShown longest (line ∷ lines) (shown ∷ rest) = Shown longest line shown × AllShown longest lines rest

-- a read brings the next bytes of what is to come, and none only where all has come
pub record Brought (old : List ℕ) (w : Window) (coming : List ℕ) (new : List ℕ) (r : Window) (left : List ℕ) : Type 0 where
  pub read : ReadOn old w new r
  pub room : length new ≡ length old
  pub onward : held new r ++ left ≡ held old w ++ coming
  pub ended : r.done ≡ true → left ≡ []

-- `next_line` over and over, with a buffer, a window, and what is still to come: the lines that it tells
pub data Run (longest : ℕ) : List ℕ → Window → List ℕ → List (List ℕ) → Type 0 where
  tells : (buffer : List ℕ) (w : Window) (coming : List ℕ) (lines : List (List ℕ)) (start end : ℕ) (v : Window) →
      front buffer (past_cut buffer w) longest ≡ record { found = Line start end; window = v } → Run longest buffer v coming lines →
      Run longest buffer w coming (text_of buffer (Line start end) ∷ lines)
  reads : (buffer : List ℕ) (w : Window) (coming : List ℕ) (lines : List (List ℕ)) (v : Window) (new : List ℕ) (r : Window) (left : List ℕ) →
      front buffer (past_cut buffer w) longest ≡ record { found = More; window = v } → Brought buffer (past_cut buffer w) coming new r left →
      Run longest new r left lines → Run longest buffer w coming lines
  ends : (buffer : List ℕ) (w : Window) (coming : List ℕ) (v : Window) →
      front buffer (past_cut buffer w) longest ≡ record { found = End; window = v } → Run longest buffer w coming []
