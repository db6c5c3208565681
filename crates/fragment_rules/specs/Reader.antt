-- A reader of a text that comes in lumps: what each event makes of it, and what it says.
use Rattle.version_reading.specs.declared.text.Verdict.{Verdict}
use Rattle.std.specs.Prelude.{◌≡◌, Bool, true, false, cond, List, ℕ, ◌+◌, ◌≤◌, min, ltb, length, take, replicate, Option, None, Some}
use Rattle.std.proofs.lemmas.List.Edits.{sets}
use Rattle.answers.specs.Refusal.{refusal}
use Rattle.version_parts.specs.Fields.{no_version}
use Rattle.version_reading.specs.declared.text.Verdict.TheVariants.{Refused}
use Rattle.version_reading.specs.declared.text.VersionReading.{VersionReading}
use Rattle.version_reading.specs.Reading.{longest, place_of, version_of}
use Rattle.fragment_rules.specs.declared.answer.Answer.{Answer}
use Rattle.fragment_rules.specs.declared.reader.Reader.{Reader}

-- a new reader, and one after a reset
abbrev pub fresh : Reader
fresh = record { held = replicate 1024 0; count = 0; ended = false }

-- how many bytes came: one more than can be held stands for all that are too many
abbrev pub counted : ℕ → ℕ
counted n = min n (longest + 1)

-- a lump goes after what is held, as far as there is room
abbrev pub added : Reader → List ℕ → Reader
added r lump = record {
  held = sets r.held r.count lump;
  count = counted (r.count + length lump);
  ended = false;
}

-- nothing is taken after the end mark
unfoldable pub taken : Reader → List ℕ → Reader
taken r lump = cond r.ended r (added r lump)

-- the end mark
abbrev pub marked : Reader → Reader
marked r = record { held = r.held; count = r.count; ended = true }

-- the 1,025th byte is too many
abbrev pub overfull : Reader → Bool
overfull r = ltb longest r.count

-- there is a verdict at the end mark, or as soon as too many bytes came
abbrev pub settled : Reader → Bool
settled r = cond (overfull r) true r.ended

-- what was read, as an answer
abbrev pub given : VersionReading → Answer
given r = record { says = Some r.verdict; version = r.version }

abbrev pub nothing : Answer
nothing = record { says = None; version = no_version }

abbrev pub too_long : Answer
too_long = record { says = Some (Refused (refusal 8 longest)); version = no_version }

unfoldable pub said_by : Reader → Answer
said_by r = cond (overfull r) too_long (cond r.ended (given (version_of (take r.count r.held))) nothing)

-- the place of a refusal that is said
abbrev pub place_said : Option Verdict → ℕ
place_said None = 0
place_said (Some v) = place_of v

-- what a caller may count on beside the equation
pub record Said (spec r : Answer) : Type 0 where
  pub is : r ≡ spec
  pub few : r.version.release.len ≤ 16
  pub short : r.version.local.len ≤ 16
  pub near : place_said r.says ≤ longest
