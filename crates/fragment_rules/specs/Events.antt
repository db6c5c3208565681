-- What came off the bus, and what is due after it: said of whole texts, with no reader in sight.
use Rattle.std.specs.Prelude.{Bool, true, false, cond, List, [], ◌∷◌, ◌++◌, ℕ, ltb, length}
use Rattle.std.proofs.lemmas.List.Edits.{sets}
use Rattle.version_reading.specs.Reading.{longest, version_of}
use Rattle.fragment_rules.specs.declared.answer.Answer.{Answer}
use Rattle.fragment_rules.specs.declared.reader.Reader.{Reader}
use Rattle.fragment_rules.specs.Reader.{fresh, counted, taken, marked, given, nothing, too_long}

pub data Event : Type 0 where
  lump : List ℕ → Event
  end : Event
  reset : Event

-- the text that came since the last reset, up to the end mark, and whether that came
pub record Came : Type 0 where
  pub text : List ℕ
  pub ended : Bool

abbrev pub none : Came
none = record { text = []; ended = false }

abbrev pub with : Came → Event → Came
with c (lump l) = cond c.ended c (record { text = c.text ++ l; ended = false })
with c end = record { text = c.text; ended = true }
with c reset = none

-- from what had come before
unfoldable pub came_from : Came → List Event → Came
came_from c [] = c
came_from c (e ∷ es) = came_from (with c e) es

-- the answer of the whole text at the end mark; before it none, unless the text is too long already
unfoldable pub due : Came → Answer
due c = cond c.ended (given (version_of c.text)) (cond (ltb longest (length c.text)) too_long nothing)

-- the reader that has taken what came
unfoldable pub reader_of : Came → Reader
reader_of c = record {
  held = sets fresh.held 0 c.text;
  count = counted (length c.text);
  ended = c.ended;
}

-- what the events make of a reader, one by one
abbrev pub step : Reader → Event → Reader
step r (lump l) = taken r l
step r end = marked r
step r reset = fresh

unfoldable pub run_from : Reader → List Event → Reader
run_from r [] = r
run_from r (e ∷ es) = run_from (step r e) es

-- no reset is among the events
abbrev pub Going : List Event → Type 0
Going [] = Unit {0}
Going (lump l ∷ es) = Going es
Going (end ∷ es) = Going es
Going (reset ∷ es) = ⊥

-- the text that lumps are cut from
unfoldable pub joined_up : List (List ℕ) → List ℕ
joined_up [] = []
joined_up (l ∷ ls) = l ++ joined_up ls
