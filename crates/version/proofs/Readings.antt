-- What is read of a text: by the quick way, where that finds a version, or by the rules.
-- Assumes nothing.
use Rattle.std.specs.Prelude.{Option, None, Some}
use mathlib.Core.Path.{◌≡◌, ap}
use mathlib.Core.Bool.{false}
use mathlib.Core.List.{List, []}
use Prim.Native.Nat.{ℕ}
use Rattle.answers.specs.declared.Refusal.{Refusal}
use Rattle.version_parts.specs.declared.fields.Version.{Version}
use Rattle.version_reading.specs.declared.plain.Plain.{Plain}
use Rattle.version_reading.specs.declared.text.PatternReading.{PatternReading}
use Rattle.version_reading.specs.declared.text.VersionReading.{VersionReading}
use Rattle.version_reading.specs.declared.text.Verdict.{Verdict}
use Rattle.version_reading.specs.declared.text.Verdict.TheVariants.{Accepted, Refused}
use Rattle.version_reading.specs.Plain.{plain_of, PlainRead, whole_version}
use Rattle.version_reading.specs.Reading.{accepted, pattern_as, version_of, Read}
use Rattle.version_reading.specs.Value.{value_of}
use Rattle.version_reading.proofs.Wholes.{version_read}
use Rattle.version_reading.proofs.PlainRead.{plain_promised}
use Rattle.version_word.specs.declared.packed.Word.{Word}
use Rattle.version_word.specs.Beside.{word_beside, word_of_plain}
use Rattle.version_word.proofs.Texts.{plain_in, refused_in, read_in}
use Rattle.version.specs.declared.reading.Reading.{Reading}
use Rattle.version.specs.Reading.{TextRead}

-- the parts of what is read, by the rules
module _ {s : List ℕ} {r : Reading} (d : TextRead s r) where
  pub verdict_is : r.verdict ≡ (version_of s).verdict
  verdict_is = ap (λ (v : VersionReading). v.verdict) d.fields.is

  pub version_is : r.version ≡ (version_of s).version
  version_is = ap (λ (v : VersionReading). v.version) d.fields.is

-- the ways of `read_from`
abbrev reading : Verdict → Version → Option Word → Reading
reading verdict version word = record { verdict = verdict; version = version; word = word }

pub read_quickly : (s : List ℕ) (q : Option Plain) (x : Plain) (v : Version) (w : Option Word) → PlainRead (plain_of s) q → q ≡ Some x →
    v ≡ whole_version x → w ≡ word_of_plain x → TextRead s (reading Accepted v w)
read_quickly s q x v w p f e h = record {
  fields = version_read s (accepted false v) (plain_promised false s q x v p f e);
  word = plain_in s q x w p f h;
}

module _ (s : List ℕ) (read : PatternReading) (p : Read (pattern_as false s) read) where
  pub read_refused : (x : Refusal) → read.verdict ≡ Refused x → TextRead s (reading read.verdict read.version None)
  read_refused x e = record { fields = version_read s read p; word = refused_in s read p.is x e }

  pub read_accepted : (w : Option Word) → read.verdict ≡ Accepted → w ≡ word_beside (value_of [] read.version) →
      TextRead s (reading read.verdict read.version w)
  read_accepted w e h = record { fields = version_read s read p; word = read_in s read p.is w e h }
