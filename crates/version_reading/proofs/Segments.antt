-- The ways of the functions that look at one segment of a label.
-- Assumes nothing.
use Rattle.std.specs.Prelude.{Result, Ok, Err}
use mathlib.Core.Path.{◌≡◌, refl}
use mathlib.Core.List.{List, []}
use Prim.Native.Nat.{ℕ}
use lib.ListN.{length}
use Rattle.chars.proofs.Cases.{yes_is, no_is}
use Rattle.decimal.specs.declared.parse.NumberError.{NumberError}
use Rattle.decimal.specs.Parse.{number_of, digits_of}
use Rattle.version_reading.specs.declared.segment.Segment.{Segment}
use Rattle.version_reading.specs.declared.segment.Segment.TheVariants.{Number as IsNumber, Text}
use Rattle.version_reading.specs.declared.text.VersionReading.{VersionReading}
use Rattle.version_reading.specs.Reading.{version_of}
use Rattle.version_reading.specs.Segment.{segment_of, segment_bytes, segment_text}

-- n digits stand at the front of the segment, and r is the number that its bytes write
module _ (bytes : List ℕ) (n : ℕ) (e : n ≡ digits_of bytes) where
  pub segment_word : (n ≡ length bytes → ⊥) → Text ≡ segment_of bytes
  unfolding segment_of
  segment_word f = no_is _ _ e f refl

  module _ (r : Result ℕ NumberError) (f : n ≡ length bytes) (g : r ≡ number_of bytes) where
    pub segment_long : (x : NumberError) → r ≡ Err x → Text ≡ segment_of bytes
    unfolding segment_of
    segment_long x h = yes_is _ _ e f (rw (← g, h))

    pub segment_number : (v : ℕ) → r ≡ Ok v → IsNumber v ≡ segment_of bytes
    unfolding segment_of
    segment_number v h = yes_is _ _ e f (rw (← g, h))

-- the segment's bytes b, of the version that was read, and what they say
module _ (s : List ℕ) (i : ℕ) (read : VersionReading) (b : List ℕ) (r : Segment)
    (d : read ≡ version_of s) (e : b ≡ segment_bytes s read.version.local i) (f : r ≡ segment_of b) where
  pub text_missing : (n : ℕ) → r ≡ IsNumber n → [] ≡ segment_text s i
  unfolding segment_text
  text_missing n g = rw (← d, ← e, ← f, g)

  pub text_there : r ≡ Text → b ≡ segment_text s i
  unfolding segment_text
  text_there g = rw (← d, ← e, ← f, g)
