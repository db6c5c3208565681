-- What reading a text gives: the verdict and the fields by the rules, and the word beside them.
use Rattle.std.specs.Prelude.{◌≡◌, List, ℕ}
use Rattle.version_reading.specs.declared.text.VersionReading.{VersionReading}
use Rattle.version_reading.specs.Reading.{VersionRead, version_of}
use Rattle.version_word.specs.Beside.{word_in}
use Rattle.version.specs.declared.reading.Reading.{Reading}

abbrev pub without_word : Reading → VersionReading
without_word r = record { verdict = r.verdict; version = r.version }

pub record TextRead (s : List ℕ) (r : Reading) : Type 0 where
  pub fields : VersionRead (version_of s) (without_word r)
  pub word : r.word ≡ word_in s
