-- Worked points: what is told of small windows.
-- Assumes nothing.
use mathlib.Core.Path.{◌≡◌, refl}
use mathlib.Core.Bool.{Bool, true, false}
use mathlib.Core.List.{List, [], ◌∷◌, ◌++◌}
use Prim.Native.Nat.{ℕ}
use Rattle.chars.specs.Scan.{index_of, index_after}
use Rattle.chars.specs.Text.{ascii}
use Rattle.lines.specs.declared.window.Window.{Window}
use Rattle.lines.specs.declared.window.Found.TheVariants.{Line, More, End}
use Rattle.lines.specs.Window.{front, past_cut}
use Rattle.lines.specs.Run.{lines_of}

abbrev pub window : ℕ → ℕ → Bool → Bool → Window
window start end cut done = record { start = start; end = end; cut = cut; done = done }

-- two lines and the beginning of a third
abbrev some : List ℕ
some = ascii "1.0" ++ (10 ∷ 10 ∷ ascii "2.0.5")

pub a_line : front some (window 0 10 false false) 4 ≡ record { found = Line 0 3; window = window 4 10 false false }
unfolding front index_of index_after
a_line = refl

pub an_empty_line : front some (window 4 10 false false) 4 ≡ record { found = Line 4 4; window = window 5 10 false false }
unfolding front index_of index_after
an_empty_line = refl

-- the rest has five bytes and no line feed: with five as the longest it waits, with four it is cut, and at the end it is the last line
pub waits : front some (window 5 10 false false) 5 ≡ record { found = More; window = window 5 10 false false }
unfolding front index_of index_after
waits = refl

pub cut_off : front some (window 5 10 false false) 4 ≡ record { found = Line 5 10; window = window 10 10 true false }
unfolding front index_of index_after
cut_off = refl

pub the_last : front some (window 5 10 false true) 9 ≡ record { found = Line 5 10; window = window 10 10 true true }
unfolding front index_of index_after
the_last = refl

pub no_more : front some (window 10 10 true true) 9 ≡ record { found = End; window = window 10 10 true true }
unfolding front index_of index_after
no_more = refl

-- the rest of a cut line is dropped, with its line feed where that has come
pub rest_dropped : past_cut some (window 1 10 true false) ≡ window 4 10 false false
unfolding past_cut index_of index_after
rest_dropped = refl

pub rest_goes_on : past_cut some (window 5 10 true false) ≡ window 10 10 true false
unfolding past_cut index_of index_after
rest_goes_on = refl

-- the lines of a whole text: an empty one counts, and a last one without its line feed; after the last line feed there is none
pub three_lines : lines_of some ≡ ascii "1.0" ∷ [] ∷ ascii "2.0.5" ∷ []
unfolding lines_of
three_lines = refl

pub two_lines : lines_of (ascii "1.0" ++ (10 ∷ 10 ∷ [])) ≡ ascii "1.0" ∷ [] ∷ []
unfolding lines_of
two_lines = refl
