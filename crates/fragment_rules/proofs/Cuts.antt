-- A text in lumps: wherever it is cut, the same is said of it, and before the end mark nothing, unless it is too long.
-- Assumes nothing.
use Rattle.std.specs.Prelude.{None, Some}
use mathlib.Core.Path.{◌≡◌, refl, sym, ◌∙◌, ap}
use mathlib.Core.Logic.{◌↔◌}
use mathlib.Core.Bool.{Bool, true, false, cond}
use mathlib.Core.List.{List, [], ◌∷◌, ◌++◌, map, append-nil, append_assoc}
use Prim.Native.Nat.{ℕ, ◌≤◌, ◌<◌}
use lib.ListN.{length, take}
use borrow.Author.Tests.{lt-ltb, le-ltb}
use Rattle.version_reading.specs.declared.text.Verdict.{Verdict}
use Rattle.version_reading.specs.declared.text.VersionReading.{VersionReading}
use Rattle.version_reading.specs.Reading.{longest, version_of}
use Rattle.fragment_rules.specs.declared.answer.Answer.{Answer}
use Rattle.fragment_rules.specs.declared.reader.Reader.{Reader}
use Rattle.fragment_rules.specs.Reader.{fresh, marked, overfull, settled, given, nothing, too_long, said_by}
use Rattle.fragment_rules.specs.Events.{lump, end, Came, none, with, came_from, due, reader_of, run_from, joined_up}
use Rattle.fragment_rules.proofs.Lumps.{step_came, run_reader, said_due}

-- a text before its end mark
abbrev before : List ℕ → Came
before t = record { text = t; ended = false }

came_on : (t : List ℕ) (ls : List (List ℕ)) → came_from (before t) (map lump ls) ≡ before (t ++ joined_up ls)
unfolding came_from joined_up
came_on t [] = ap before (sym (append-nil t))
came_on t (l ∷ ls) = came_on (t ++ l) ls ∙ ap before (append_assoc t l (joined_up ls))

pub came_lumps : (ls : List (List ℕ)) → came_from none (map lump ls) ≡ record { text = joined_up ls; ended = false }
came_lumps ls = came_on [] ls

-- the reader has the text, and nothing tells where it was cut
pub cut_reader : (ls : List (List ℕ)) → run_from fresh (map lump ls) ≡ reader_of (record { text = joined_up ls; ended = false })
cut_reader ls = run_reader (map lump ls) ∙ ap reader_of (came_lumps ls)

-- the same state, byte for byte
pub same_text : (ls ms : List (List ℕ)) → joined_up ls ≡ joined_up ms → run_from fresh (map lump ls) ≡ run_from fresh (map lump ms)
same_text ls ms e = cut_reader ls ∙ ap (λ (t : List ℕ). reader_of (before t)) e ∙ sym (cut_reader ms)

-- at the end mark, what reading gives the whole text
pub cut_says : (ls : List (List ℕ)) → said_by (marked (run_from fresh (map lump ls))) ≡ given (version_of (joined_up ls))
unfolding due
cut_says ls =
    let c = before (joined_up ls) in
    ap (λ (r : Reader). said_by (marked r)) (cut_reader ls) ∙ ap said_by (step_came c end) ∙ said_due (with c end)

-- before that, nothing or the one refusal
said_lumps : (ls : List (List ℕ)) → said_by (run_from fresh (map lump ls)) ≡ due (before (joined_up ls))
said_lumps ls = ap said_by (cut_reader ls) ∙ said_due (before (joined_up ls))

pub no_verdict : (ls : List (List ℕ)) → length (joined_up ls) ≤ longest → said_by (run_from fresh (map lump ls)) ≡ nothing
unfolding due
no_verdict ls h = said_lumps ls ∙ rw (le-ltb longest (length (joined_up ls)) h)

pub at_once : (ls : List (List ℕ)) → longest < length (joined_up ls) → said_by (run_from fresh (map lump ls)) ≡ too_long
unfolding due
at_once ls h = said_lumps ls ∙ rw (lt-ltb longest (length (joined_up ls)) h)

-- nothing is said exactly as long as there is no verdict
some_said : (a : Answer) (v : Verdict) → a.says ≡ Some v → a ≡ nothing → true ≡ false
some_said a v e h = let z : a.says ≡ None = ap (λ (a : Answer). a.says) h in cc

said_if : (x : VersionReading) (long ended : Bool) → (cond long too_long (cond ended (given x) nothing) ≡ nothing) ↔ (cond long true ended ≡ false)
said_if x true ended = (some_said too_long _ refl, λ e. cc)
said_if x false true = (some_said (given x) _ refl, λ e. cc)
said_if x false false = (λ e. refl, λ e. refl)

pub said_before : (r : Reader) → (said_by r ≡ nothing) ↔ (settled r ≡ false)
unfolding said_by
said_before r = said_if (version_of (take r.count r.held)) (overfull r) r.ended
