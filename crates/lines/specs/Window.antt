-- The lines in the window of a buffer.
use Rattle.std.specs.Prelude.{◌≡◌, Bool, true, false, cond, List, [], ℕ, ◌+◌, ◌-◌, ◌≤◌, min, ltb, length, take, drop}
use Rattle.chars.specs.Scan.{index_of}
use Rattle.lines.specs.declared.window.Window.{Window}
use Rattle.lines.specs.declared.window.Found.{Found}
use Rattle.lines.specs.declared.window.Found.TheVariants.{Line, More, End}
use Rattle.lines.specs.declared.window.Next.{Next}

abbrev pub line_feed : ℕ
line_feed = 10

-- nothing was read yet
abbrev pub unread : Window
unread = record { start = 0; end = 0; cut = false; done = false }

-- what was read and not yet told
abbrev pub held : List ℕ → Window → List ℕ
held buffer w = take (w.end - w.start) (drop w.start buffer)

-- how far the line at the front of a text goes: up to its line feed, or the whole text
abbrev pub line_length : List ℕ → ℕ
line_length text = index_of line_feed text

pub record LineLength (text : List ℕ) (r : ℕ) : Type 0 where
  pub is : r ≡ line_length text
  pub within : r ≤ length text

-- the longest line that waits for its line feed in a buffer of that size: at the end of the input none does
abbrev pub limit : Bool → ℕ → ℕ → ℕ
limit true longest size = 0
limit false longest size = min longest (size - 1)

-- the line of that length at the front, and the window that begins `behind` bytes later
abbrev pub told : Window → ℕ → ℕ → Bool → Next
told w len behind cut =
    record {
      found = Line w.start (w.start + len);
      window = record { start = w.start + behind; end = w.end; cut = cut; done = w.done };
    }

abbrev pub untold : Window → Next
untold w = record { found = cond w.done End More; window = w }

-- by the length of the line, of all that is held, and the limit
abbrev pub front_by : Window → ℕ → ℕ → ℕ → Next
front_by w len all most = cond (ltb len all) (told w len (len + 1) false) (cond (ltb most len) (told w len len true) (untold w))

-- the line at the front of a window, as soon as its line feed is there, or it has more bytes than the limit
unfoldable pub front : List ℕ → Window → ℕ → Next
front buffer w longest = front_by w (line_length (held buffer w)) (length (held buffer w)) (limit w.done longest (length buffer))

-- the window after the rest of a line that was cut, by the length of that rest and of all that is held
abbrev pub past_rest : Window → ℕ → ℕ → Window
past_rest w len all =
    cond
    (ltb len all)
    (record { start = w.start + len + 1; end = w.end; cut = false; done = w.done })
    (record { start = w.end; end = w.end; cut = true; done = w.done })

unfoldable pub past_cut : List ℕ → Window → Window
past_cut buffer w = cond w.cut (past_rest w (line_length (held buffer w)) (length (held buffer w))) w

-- the bytes of a line that was found
abbrev pub text_of : List ℕ → Found → List ℕ
text_of buffer (Line start end) = take (end - start) (drop start buffer)
text_of buffer More = []
text_of buffer End = []
