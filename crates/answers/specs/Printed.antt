-- What any printer answers and leaves after, by the text that it is to write.
use Rattle.answers.specs.declared.Refusal.{Refusal}
use Rattle.std.specs.Prelude.{◌≡◌, Bool, true, false, List, ◌++◌, ℕ, ltb, length, drop, Result, Ok, Err}
use Rattle.answers.specs.Refusal.{refusal}

-- by whether the buffer is too short
abbrev pub answer_if : Bool → List ℕ → Result ℕ Refusal
answer_if true text = Err (refusal 11 (length text))
answer_if false text = Ok (length text)

abbrev pub filled_if : Bool → List ℕ → List ℕ → List ℕ
filled_if true text buf = buf
filled_if false text buf = text ++ drop (length text) buf

-- the length, where the buffer has room for the text; else refusal 11 with the length needed
unfoldable pub answer : List ℕ → List ℕ → Result ℕ Refusal
answer text buf = answer_if (ltb (length buf) (length text)) text

-- the text, then what stood after it; else the buffer as it was
unfoldable pub filled : List ℕ → List ℕ → List ℕ
filled text buf = filled_if (ltb (length buf) (length text)) text buf

-- r is the answer, and `new` the buffer afterwards, of a printer of that text
pub record Printed (text old new : List ℕ) (r : Result ℕ Refusal) : Type 0 where
  pub answers : r ≡ answer text old
  pub leaves : new ≡ filled text old
