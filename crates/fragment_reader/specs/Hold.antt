-- What both forms of a reader are made of: bytes, how many of them came, and whether the end mark did.
use Rattle.std.specs.Prelude.{◌≡◌, Bool, List, ℕ, ◌+◌, ◌≤◌, length}
use Rattle.std.proofs.lemmas.List.Edits.{sets}
use Rattle.version_reading.specs.Reading.{longest}
use Rattle.fragment_rules.specs.declared.reader.Reader.{Reader}
use Rattle.fragment_rules.specs.Reader.{counted}

-- a lump after `count` bytes that came
pub record Holds (old : List ℕ) (count : ℕ) (lump new : List ℕ) (r : ℕ) : Type 0 where
  pub bytes : new ≡ sets old count lump
  pub came : r ≡ counted (count + length lump)
  pub near : r ≤ longest + 1

-- the first bytes of a text, as many as came, as a reader
abbrev pub reader_by : List ℕ → ℕ → Bool → Reader
reader_by s count ended = record { held = s; count = count; ended = ended }
