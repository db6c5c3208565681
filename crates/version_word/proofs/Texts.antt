-- The word of the version that a text says, by what was read of the text.
-- Assumes nothing.
use Rattle.std.specs.Prelude.{Option, None, Some, Ok, Err}
use mathlib.Core.Path.{◌≡◌, ◌∙◌, ap}
use mathlib.Core.Bool.{false}
use mathlib.Core.List.{List, []}
use Prim.Native.Nat.{ℕ}
use Rattle.answers.specs.declared.Refusal.{Refusal}
use Rattle.version_reading.specs.declared.plain.Plain.{Plain}
use Rattle.version_reading.specs.declared.text.PatternReading.{PatternReading}
use Rattle.version_reading.specs.declared.text.Verdict.TheVariants.{Accepted, Refused as NotRead}
use Rattle.version_reading.specs.Plain.{plain_of, PlainRead}
use Rattle.version_reading.specs.Reading.{pattern_as, version_of}
use Rattle.version_reading.specs.Value.{value_in, value_of}
use Rattle.version_reading.proofs.PlainRead.{plain_said, said_filled}
use Rattle.version_word.specs.declared.packed.Word.{Word}
use Rattle.version_word.specs.Beside.{word_beside, word_of_plain, word_in}
use Rattle.version_word.specs.Worded.{word_answer}
use Rattle.version_word.proofs.Beside.{plain_word, beside_blind, beside_answer}

-- an accepted text's word, and as an answer
module _ (s : List ℕ) (e : (version_of s).verdict ≡ Accepted) where
  pub in_accepted : word_in s ≡ word_beside (value_in s)
  unfolding word_in
  in_accepted = rw e

  in_answer : Ok (word_in s) ≡ word_answer s
  unfolding word_answer
  in_answer = rw (in_accepted, e) (beside_answer (value_in s))

-- the quick reading q found v
module _ (s : List ℕ) (q : Option Plain) (v : Plain) (w : Option Word) (p : PlainRead (plain_of s) q) (f : q ≡ Some v) (h : w ≡ word_of_plain v) where
  pub plain_in : w ≡ word_in s
  unfolding word_in version_of
  plain_in = rw (plain_said false s q v p.is f) (h ∙ plain_word s v (said_filled p f).filled)

  pub plain_answer : Ok w ≡ word_answer s
  unfolding version_of
  plain_answer = ap (λ (x : Option Word). Ok x) plain_in ∙ in_answer s (rw (plain_said false s q v p.is f))

-- the rules read it
module _ (s : List ℕ) (read : PatternReading) (d : read ≡ pattern_as false s) where
  module _ (x : Refusal) (e : read.verdict ≡ NotRead x) where
    pub refused_in : None ≡ word_in s
    unfolding word_in version_of
    refused_in = rw (← d, e)

    pub refused_answer : Err x ≡ word_answer s
    unfolding word_answer version_of
    refused_answer = rw (← d, e)

  module _ (w : Option Word) (e : read.verdict ≡ Accepted) (f : w ≡ word_beside (value_of [] read.version)) where
    pub read_in : w ≡ word_in s
    unfolding word_in version_of
    read_in = rw (← d, e, ← beside_blind s read.version) f

    pub read_answer : Ok w ≡ word_answer s
    unfolding version_of
    read_answer = ap (λ (v : Option Word). Ok v) read_in ∙ in_answer s (rw (← d) e)
