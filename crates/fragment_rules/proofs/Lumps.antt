-- The reader that events make holds what came and no more than it can hold, and says what is due.
-- Assumes nothing.
use mathlib.Core.Path.{◌≡◌, refl, sym, ◌∙◌, ap}
use mathlib.Core.Bool.{Bool, true, false, cond}
use mathlib.Core.List.{List, [], ◌∷◌, ◌++◌}
use Prim.Native.Nat.{ℕ, ◌+◌, ◌≤◌, ◌<◌}
use native.Mathlib.Decide.{dec_lt}
use native.Mathlib.Omega.{arith}
use lib.ListN.{length, take, drop, length-append, length-replicate}
use lib.Seq.{sets, length-sets, sets-eq, take-append_seam}
use borrow.Author.Tests.{lt-ltb, le-ltb}
use Rattle.decimal.proofs.Puts.{sets_append, sets_past}
use Rattle.version_reading.specs.Reading.{longest, refused_with, pattern_as, without_wildcard, version_of}
use Rattle.fragment_rules.specs.declared.reader.Reader.{Reader}
use Rattle.fragment_rules.specs.Reader.{fresh, counted, added, taken, given, too_long, said_by}
use Rattle.fragment_rules.specs.Events.{Event, lump, end, reset, Came, none, with, came_from, due, reader_of, step, run_from}

-- a function of what a test picks
pick_map : {A B : Type 0} (f : A → B) (b : Bool) (x y : A) → f (cond b x y) ≡ cond b (f x) (f y)
pick_map f true x y = refl
pick_map f false x y = refl

pub pick_same : {A : Type 0} (b : Bool) (x : A) → x ≡ cond b x x
pick_same true x = refl
pick_same false x = refl

pub room : length fresh.held ≡ 1024
room = length-replicate {0} {A = ℕ} 1024 0

-- two that are made are the same by their fields
pub same_reader : {h k : List ℕ} {m n : ℕ} {b c : Bool} → h ≡ k → m ≡ n → b ≡ c
    → ◌≡◌ {A = Reader} (record { held = h; count = m; ended = b }) (record { held = k; count = n; ended = c })
same_reader e f g = rw (e, f, g)

-- a lump goes where the text before it ends; after the last place it is not held
held_on : (z t l : List ℕ) → length z ≤ longest → sets (sets z 0 t) (counted (length t)) l ≡ sets z 0 (t ++ l)
held_on z t l h =
    let size = length-sets z 0 t in
    elim (dec_lt (longest + 1) (length t)) [
      | yes long ↦
          sets_past l (sets z 0 t) (counted (length t)) (omega arith)
          ∙ sym (sets_past l (sets z 0 t) (0 + length t) (omega arith))
          ∙ sets_append t l z 0
      | no short ↦ let place : counted (length t) ≡ 0 + length t = omega arith in rw place (sets_append t l z 0)
    ]

added_came : (c : Came) (l : List ℕ) → added (reader_of c) l ≡ reader_of (record { text = c.text ++ l; ended = false })
unfolding reader_of
added_came c l =
    same_reader (held_on fresh.held c.text l (omega (arith, room))) (omega (arith, length-append c.text l)) refl

pub step_came : (c : Came) (e : Event) → step (reader_of c) e ≡ reader_of (with c e)
unfolding taken reader_of
step_came c (lump l) = ap (λ (r : Reader). cond c.ended (reader_of c) r) (added_came c l) ∙ sym (pick_map reader_of c.ended c _)
step_came c end = refl
step_came c reset = refl

pub run_came : (c : Came) (es : List Event) → run_from (reader_of c) es ≡ reader_of (came_from c es)
unfolding run_from came_from
run_came c [] = refl
run_came c (e ∷ es) = ap (λ (r : Reader). run_from r es) (step_came c e) ∙ run_came (with c e) es

pub fresh_none : fresh ≡ reader_of none
unfolding reader_of
fresh_none = refl

-- whatever came, in whatever lumps, the reader is the one that took it all at once
pub run_reader : (es : List Event) → run_from fresh es ≡ reader_of (came_from none es)
run_reader es = ap (λ (r : Reader). run_from r es) fresh_none ∙ run_came none es

-- a text that has room is held whole
pub held_whole : (z t : List ℕ) → length t ≤ length z → take (length t) (sets z 0 t) ≡ t
held_whole z t h = rw (sets-eq t z 0 (omega arith)) (take-append_seam t (drop (0 + length t) z))

pub held_text : (c : Came) → length c.text ≤ longest → take (reader_of c).count (reader_of c).held ≡ c.text
unfolding reader_of
held_text c h =
    let all : counted (length c.text) ≡ length c.text = omega arith in
    rw all (held_whole fresh.held c.text (omega (arith, room)))

-- a longer one is refused, whatever it is
pub long_reading : (t : List ℕ) → longest < length t → version_of t ≡ without_wildcard (refused_with 8 longest)
unfolding version_of pattern_as
long_reading t h = rw (lt-ltb longest (length t) h)

pub long_read : (t : List ℕ) → longest < length t → given (version_of t) ≡ too_long
long_read t h = ap given (long_reading t h)

pub said_due : (c : Came) → said_by (reader_of c) ≡ due c
unfolding said_by reader_of due
said_due c =
    let t = c.text in
    elim (dec_lt longest (length t)) [
      | yes long ↦
          rw (lt-ltb longest (counted (length t)) (omega arith), lt-ltb longest (length t) long, long_read t long) (pick_same c.ended too_long)
      | no short ↦
          let all : counted (length t) ≡ length t = omega arith in
          rw (all, le-ltb longest (length t) (omega arith), held_whole fresh.held t (omega (arith, room)))
    ]

-- and says what is due
pub run_says : (es : List Event) → said_by (run_from fresh es) ≡ due (came_from none es)
run_says es = ap said_by (run_reader es) ∙ said_due (came_from none es)
