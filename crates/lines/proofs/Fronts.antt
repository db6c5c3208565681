-- The ways of the line at the front of a window.
-- Assumes nothing.
use mathlib.Core.Path.{◌≡◌, sym, ap, ◌∙◌}
use mathlib.Core.Bool.{true, false, not, not-not}
use mathlib.Core.List.{List}
use Prim.Native.Nat.{ℕ, ◌+◌, ◌-◌, ◌<◌, ◌≤◌}
use native.Mathlib.Nat.{zero-add}
use lib.ListN.{length, take, drop}
use borrow.Author.Tests.{lt-ltb, le-ltb}
use Rattle.chars.specs.Scan.{index_of}
use Rattle.lines.specs.declared.window.Window.{Window}
use Rattle.lines.specs.declared.window.Found.TheVariants.{Line, More, End}
use Rattle.lines.specs.declared.window.Found.{Found}
use Rattle.lines.specs.declared.window.Next.{Next}
use Rattle.lines.specs.Window.{line_feed, held, line_length, limit, told, untold, front, past_cut, text_of}

pub line_found : (text : List ℕ) (r : ℕ) → r ≡ 0 + index_of line_feed (drop 0 text) → r ≡ line_length text
line_found text r e = e ∙ zero-add (index_of line_feed text)

pub at_the_end : (w : Window) → w.done ≡ true → record { found = End; window = w } ≡ untold w
at_the_end w e = rw e

pub to_read : (w : Window) → w.done ≡ false → record { found = More; window = w } ≡ untold w
to_read w e = rw e

module _ (buffer : List ℕ) (w : Window) {text : List ℕ} {len : ℕ} (part : text ≡ held buffer w) (found : len ≡ line_length text) where
  module _ (longest : ℕ) {r : Next} where
    pub front_whole : len < length text → r ≡ told w len (len + 1) false → r ≡ front buffer w longest
    unfolding front
    front_whole h e = rw (← part, ← found, lt-ltb len (length text) h) e

    module _ {most : ℕ} (unended : length text ≤ len) (limited : most ≡ limit w.done longest (length buffer)) where
      pub front_cut : most < len → r ≡ told w len len true → r ≡ front buffer w longest
      unfolding front
      front_cut h e = rw (← part, ← found, le-ltb len (length text) unended, ← limited, lt-ltb most len h) e

      pub front_none : len ≤ most → r ≡ untold w → r ≡ front buffer w longest
      unfolding front
      front_none h e = rw (← part, ← found, le-ltb len (length text) unended, ← limited, le-ltb most len h) e

  module _ (cut : not w.cut ≡ false) where
    is_cut : w.cut ≡ true
    is_cut = sym (not-not w.cut) ∙ ap not cut

    pub rest_whole : len < length text → record { start = w.start + len + 1; end = w.end; cut = false; done = w.done } ≡ past_cut buffer w
    unfolding past_cut
    rest_whole h = rw (is_cut, ← part, ← found, lt-ltb len (length text) h)

    pub rest_open : length text ≤ len → record { start = w.end; end = w.end; cut = true; done = w.done } ≡ past_cut buffer w
    unfolding past_cut
    rest_open h = rw (is_cut, ← part, ← found, le-ltb len (length text) h)

pub not_cut : (buffer : List ℕ) (w : Window) → not w.cut ≡ true → w ≡ past_cut buffer w
unfolding past_cut
not_cut buffer w e = let uncut : w.cut ≡ false = sym (not-not w.cut) ∙ ap not e in rw uncut

pub line_text : (buffer : List ℕ) (start end : ℕ) {f : Found} {text : List ℕ} → f ≡ Line start end → text ≡ take (end - start) (drop start buffer) →
    text ≡ text_of buffer f
line_text buffer start end e g = rw e g
