-- However an input comes in, what is told are its lines.
-- Assumes nothing.
use mathlib.Core.Path.{◌≡◌, refl, sym, ◌∙◌, ap, subst}
use mathlib.Core.Bool.{Bool, true, false, true≢false, cond}
use mathlib.Core.List.{List, [], ◌∷◌, ◌++◌, append-nil}
use Prim.Native.Nat.{ℕ, suc, ◌+◌, ◌-◌, ◌≤◌, ◌<◌}
use native.Mathlib.Decide.{dec_lt}
use native.Mathlib.Omega.{arith}
use lib.ListN.{length, take, drop, length-take, length-append, drop_of_length-le}
use lib.Seq.{take-nil, take-length, take-take, take-append_seam}
use borrow.Author.Tests.{lt-ltb, le-ltb}
use Rattle.lines.specs.declared.window.Window.{Window}
use Rattle.lines.specs.declared.window.Found.TheVariants.{Line, More, End}
use Rattle.lines.specs.declared.window.Next.{Next}
use Rattle.lines.specs.Window.{unread, held, line_length, limit, told, untold, front, past_cut, text_of}
use Rattle.lines.specs.Run.{lines_of, Shown, AllShown, Run}
use Rattle.chars.proofs.Parts.{part_none}
use Rattle.lines.proofs.Anchors.{window}
use Rattle.lines.proofs.Fronts.{front_whole, front_cut, front_none}
use Rattle.lines.proofs.Texts.{after_feed, whole_line, feed_inside, feed_behind, open_line, feed_within, part_later}

-- what is still to be told of a text: after a line that was cut, what follows its line feed
abbrev pending : Bool → List ℕ → List ℕ
pending true text = after_feed text
pending false text = text

abbrev to_tell : List ℕ → Window → List ℕ → List ℕ
to_tell buffer w coming = pending w.cut (held buffer w ++ coming)

-- dropping the rest of a cut line leaves what is to be told, and an open window after it, or none
record Past (buffer : List ℕ) (w : Window) (coming : List ℕ) (v : Window) : Type 0 where
  same : to_tell buffer v coming ≡ to_tell buffer w coming
  empty : v.cut ≡ true → held buffer v ≡ []
  done : v.done ≡ w.done

module _ (buffer coming : List ℕ) (start end : ℕ) (done : Bool) where
  abbrev rest : List ℕ
  rest = held buffer (window start end true done)

  past_cut_lem : Past buffer (window start end true done) coming (past_cut buffer (window start end true done))
  unfolding past_cut
  past_cut_lem =
      elim (dec_lt (line_length rest) (length rest)) [
        | yes inside ↦
            let next : start + line_length rest + 1 ≡ start + (line_length rest + 1) = omega arith in
            rw (lt-ltb (line_length rest) (length rest) inside)
            (record {
              same = rw (next, part_later start end (line_length rest + 1) buffer) (sym (feed_inside rest coming inside));
              empty = λ e. absurd (true≢false (sym e));
              done = refl;
            })
        | no outside ↦
            let behind : length rest ≤ line_length rest = omega arith in
            rw (le-ltb (line_length rest) (length rest) behind)
            (record {
              same = rw (← part_none buffer end end (omega arith)) (sym (feed_behind rest coming behind));
              empty = λ e. sym (part_none buffer end end (omega arith));
              done = refl;
            })
      ]

past_of : (buffer coming : List ℕ) (start end : ℕ) (cut done : Bool) →
    Past buffer (window start end cut done) coming (past_cut buffer (window start end cut done))
unfolding past_cut
past_of buffer coming start end true done = past_cut_lem buffer coming start end done
past_of buffer coming start end false done = record { same = refl; empty = λ e. absurd (true≢false (sym e)); done = refl }

past : (buffer : List ℕ) (w : Window) (coming : List ℕ) → Past buffer w coming (past_cut buffer w)
past buffer w coming = past_of buffer coming w.start w.end w.cut w.done

-- which line stands at the front
data Fronted (buffer : List ℕ) (v : Window) (longest : ℕ) : Type 0 where
  ended : line_length (held buffer v) < length (held buffer v) →
      front buffer v longest ≡ told v (line_length (held buffer v)) (line_length (held buffer v) + 1) false → Fronted buffer v longest
  unended : length (held buffer v) ≤ line_length (held buffer v) → limit v.done longest (length buffer) < line_length (held buffer v) →
      front buffer v longest ≡ told v (line_length (held buffer v)) (line_length (held buffer v)) true → Fronted buffer v longest
  none : length (held buffer v) ≤ line_length (held buffer v) → line_length (held buffer v) ≤ limit v.done longest (length buffer) →
      front buffer v longest ≡ untold v → Fronted buffer v longest

fronted : (buffer : List ℕ) (v : Window) (longest : ℕ) → Fronted buffer v longest
fronted buffer v longest =
    elim (dec_lt (line_length (held buffer v)) (length (held buffer v))) [
      | yes inside ↦ Fronted.ended inside (sym (front_whole buffer v refl refl longest inside refl))
      | no outside ↦
          let behind : length (held buffer v) ≤ line_length (held buffer v) = omega arith in
          elim (dec_lt (limit v.done longest (length buffer)) (line_length (held buffer v))) [
            | yes long ↦ Fronted.unended behind long (sym (front_cut buffer v refl refl longest behind refl long refl))
            | no short ↦ Fronted.none behind (omega arith) (sym (front_none buffer v refl refl longest behind refl (omega arith) refl))
          ]
    ]

-- a line that is told whole, and one that is cut
all_of_it : (longest : ℕ) (line : List ℕ) → Shown longest line line
all_of_it longest line = record { whole = λ h. refl; cut = λ h. h; beginning = sym (take-length line) }

front_of_it : (longest : ℕ) (shown rest : List ℕ) → longest < length shown → Shown longest (shown ++ rest) shown
front_of_it longest shown rest long = record {
  whole = λ h. absurd (omega (arith, length-append shown rest));
  cut = λ h. long;
  beginning = sym (take-append_seam shown rest);
}

not_cut : (cut : Bool) (text : List ℕ) → (cut ≡ true → text ≡ []) → 0 < length text → cut ≡ false
not_cut true text empty some = let none : 0 < length {A = ℕ} [] = rw (empty refl) at some in absurd (omega arith)
not_cut false text empty some = refl

-- one line is told of what is to be told, and the window is the one after it
record Tells (longest : ℕ) (buffer : List ℕ) (v : Window) (coming shown : List ℕ) (next : Window) : Type 0 where
  line : List ℕ
  lines : lines_of (to_tell buffer v coming) ≡ line ∷ lines_of (to_tell buffer next coming)
  shown_of : Shown longest line shown

module _ (longest : ℕ) (buffer : List ℕ) (v : Window) (coming : List ℕ) (empty : v.cut ≡ true → held buffer v ≡ []) where
  abbrev text : List ℕ
  text = held buffer v

  abbrev len : ℕ
  len = line_length text

  -- the bytes of the line at the front
  at_front : len ≤ v.end - v.start → text_of buffer (Line v.start (v.start + len)) ≡ take len text
  at_front h =
      let same : v.start + len - v.start ≡ len = omega arith in
      rw same (sym (take-take len (v.end - v.start) (drop v.start buffer) h))

  within : len ≤ v.end - v.start
  within = omega (arith, feed_within text, length-take (v.end - v.start) (drop v.start buffer))

  tells_whole : len < length text →
      Tells longest buffer v coming (text_of buffer (Line v.start (v.start + len))) (window (v.start + (len + 1)) v.end false v.done)
  tells_whole inside = record {
    line = take len text;
    lines =
        rw (not_cut v.cut text empty (omega arith), part_later v.start v.end (len + 1) buffer)
        (whole_line text coming inside);
    shown_of = rw (at_front within) (all_of_it longest (take len text));
  }

  module _ (room : longest < length buffer) (over : v.done ≡ true → coming ≡ []) (behind : length text ≤ len)
      (long : limit v.done longest (length buffer) < len) where
    whole_text : take len text ≡ text
    whole_text = let same : len ≡ length text = omega (arith, feed_within text) in rw same (take-length text)

    shown_by : (done : Bool) → (done ≡ true → coming ≡ []) → limit done longest (length buffer) < len →
        Shown longest (text ++ take (line_length coming) coming) text
    shown_by true end long = rw (end refl, take-nil {A = ℕ} (line_length []), append-nil text) (all_of_it longest text)
    shown_by false end long = front_of_it longest text (take (line_length coming) coming) (omega (arith, feed_within text))

    tells_cut : Tells longest buffer v coming (text_of buffer (Line v.start (v.start + len))) (window (v.start + len) v.end true v.done)
    tells_cut = record {
      line = text ++ take (line_length coming) coming;
      lines =
          let none : drop len text ≡ [] = drop_of_length-le text behind in
          rw (not_cut v.cut text empty (omega (arith, feed_within text)), part_later v.start v.end len buffer, none)
          (open_line text coming (omega (arith, feed_within text)) behind);
      shown_of = rw (at_front within, whole_text) (shown_by v.done over long);
    }

no_line : (done : Bool) (start end : ℕ) → cond done End More ≡ Line start end → ⊥
no_line true start end e = let impossible : start ≡ suc start = cc in omega arith
no_line false start end e = let impossible : start ≡ suc start = cc in omega arith

at_end : (done : Bool) → cond done End More ≡ End → done ≡ true
at_end true e = refl
at_end false e = cc

abbrev found : ℕ → ℕ → Window → Next
found start end w = record { found = Line start end; window = w }

-- a line is told of the window v, and the others of the window x after it
told_by : (longest : ℕ) (buffer : List ℕ) (v : Window) (coming : List ℕ) (lines : List (List ℕ)) (start end from to : ℕ) (x next : Window) →
    found start end next ≡ found from to x →
    Tells longest buffer v coming (text_of buffer (Line start end)) next → AllShown longest (lines_of (to_tell buffer x coming)) lines →
    AllShown longest (lines_of (to_tell buffer v coming)) (text_of buffer (Line from to) ∷ lines)
told_by longest buffer v coming lines start end from to x next e t others =
    rw (t.lines, ap (λ (n : Next). n.window) e)
    (subst (λ (n : Next). Shown longest t.line (text_of buffer n.found)) e t.shown_of, others)

-- nothing is held and nothing is to come
nothing_left : (longest size : ℕ) (cut done : Bool) (text coming : List ℕ) → length text ≤ line_length text → line_length text ≤ limit done longest size →
    done ≡ true → coming ≡ [] → lines_of (pending cut (text ++ coming)) ≡ []
unfolding lines_of
nothing_left longest size cut true (b ∷ text) coming behind short e over = absurd (omega arith)
nothing_left longest size true true [] coming behind short e over = rw over
nothing_left longest size false true [] coming behind short e over = rw over
nothing_left longest size cut false text coming behind short e over = absurd (true≢false (sym e))

-- what a run tells are the lines of what is to be told
runs : {longest : ℕ} {buffer : List ℕ} {w : Window} {coming : List ℕ} {lines : List (List ℕ)} → Run longest buffer w coming lines →
    longest < length buffer → (w.done ≡ true → coming ≡ []) → AllShown longest (lines_of (to_tell buffer w coming)) lines
runs {longest = longest} (Run.tells buffer w coming lines start end x e run) room over =
    let p = past buffer w coming in
    let still : (past_cut buffer w).done ≡ true → coming ≡ [] = λ d. over (sym p.done ∙ d) in
    rw (← p.same)
    (elim (fronted buffer (past_cut buffer w) longest) [
      | ended inside f ↦
          told_by longest buffer _ coming lines _ _ start end x _ (sym f ∙ e)
          (tells_whole longest buffer (past_cut buffer w) coming p.empty inside)
          (runs run room (λ d. still (ap (λ (n : Next). n.window.done) (sym f ∙ e) ∙ d)))
      | unended behind long f ↦
          told_by longest buffer _ coming lines _ _ start end x _ (sym f ∙ e)
          (tells_cut longest buffer (past_cut buffer w) coming p.empty room still behind long)
          (runs run room (λ d. still (ap (λ (n : Next). n.window.done) (sym f ∙ e) ∙ d)))
      | none behind short f ↦ absurd (no_line (past_cut buffer w).done start end (ap (λ (n : Next). n.found) (sym f ∙ e)))
    ])
runs {longest = longest} (Run.reads buffer w coming lines x new r left e b run) room over =
    let p = past buffer w coming in
    let more = runs run (omega (arith, b.room)) b.ended in
    rw (← p.same, ← b.read.cut, ← b.onward) more
runs {longest = longest} (Run.ends buffer w coming x e) room over =
    let p = past buffer w coming in
    rw (← p.same)
    (elim (fronted buffer (past_cut buffer w) longest) [
      | ended inside f ↦ absurd (a_line (ap (λ (n : Next). n.found) (sym f ∙ e)))
      | unended behind long f ↦ absurd (a_line (ap (λ (n : Next). n.found) (sym f ∙ e)))
      | none behind short f ↦
          let done = at_end (past_cut buffer w).done (ap (λ (n : Next). n.found) (sym f ∙ e)) in
          rw (nothing_left longest (length buffer) (past_cut buffer w).cut _ _ coming behind short done (over (sym p.done ∙ done))) tt
    ])
  where
    a_line : {start end : ℕ} → Line start end ≡ End → ⊥
    a_line {start = start} e = let impossible : start ≡ suc start = cc in omega arith

-- from an empty window on: whatever the reads bring at a time, the lines that are told are those of the input, one for one
pub whole_run : {longest : ℕ} {buffer input : List ℕ} {lines : List (List ℕ)} → Run longest buffer unread input lines →
    longest < length buffer → AllShown longest (lines_of input) lines
whole_run run room = runs run room (λ e. absurd (true≢false (sym e)))
