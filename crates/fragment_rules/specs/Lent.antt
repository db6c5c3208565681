-- A reader as 1,027 bytes that a caller lends: the text, how many bytes of it came, the lower byte first, and whether the end mark did.
use Rattle.std.specs.Prelude.{◌≡◌, Bool, true, false, not, cond, List, [], ◌∷◌, ◌++◌, ℕ, ◌+◌, ◌*◌, ◌/◌, ◌%◌, ◌≤◌, ◌<◌, eqb, length, get_or, take}
use Rattle.version_reading.specs.Reading.{longest}
use Rattle.fragment_rules.specs.declared.reader.Reader.{Reader}
use Rattle.fragment_rules.specs.Reader.{counted, settled}
use Rattle.fragment_rules.specs.Events.{Event, step}

abbrev pub flag : Bool → ℕ
flag true = 1
flag false = 0

unfoldable pub lent : Reader → List ℕ
lent r = r.held ++ (r.count % 256 ∷ r.count / 256 ∷ flag r.ended ∷ [])

-- any such bytes are a reader
unfoldable pub reader_in : List ℕ → Reader
reader_in s = record {
  held = take 1024 s;
  count = counted (get_or s 1024 0 + 256 * get_or s 1025 0);
  ended = not (eqb (get_or s 1026 0) 0);
}

-- a reader of which nothing is lost in lending
pub record Sound (r : Reader) : Type 0 where
  pub whole : length r.held ≡ 1024
  pub few : r.count ≤ longest + 1

-- what the events make of lent bytes, one by one
unfoldable pub lent_from : List ℕ → List Event → List ℕ
lent_from s [] = s
lent_from s (e ∷ es) = lent_from (lent (step (reader_in s) e)) es

-- how long the text is that questions may be asked of: none is there before the verdict
abbrev pub shown : Reader → ℕ
shown r = cond (settled r) r.count 0

-- the text, as a part of the lent bytes. One that is too long has 1,025 bytes, so that all who are asked of it refuse it.
unfoldable pub text_in : List ℕ → List ℕ
text_in s = take (shown (reader_in s)) s

-- one text, or two that are too long: all who are asked of them say the same
pub data Alike (s t : List ℕ) : Type 0 where
  same : s ≡ t → Alike s t
  both_long : longest < length s → longest < length t → Alike s t
