-- A whole text, rules 1 to 9 in their order: as a pattern, which may end in a wildcard, and as a version, which may not.
use Rattle.chars.specs.declared.spelling.PreKind.{PreKind}
use Rattle.std.specs.Prelude.{◌≡◌, Bool, true, false, cond, List, ℕ, ◌+◌, ◌≤◌, ltb, length, drop, Option, None, Result, Ok, Err}
use Rattle.answers.specs.declared.Refusal.{Refusal}
use Rattle.answers.specs.Refusal.{refusal}
use Rattle.chars.specs.Text.{ascii}
use Rattle.chars.specs.Class.{blank, between, front}
use Rattle.chars.specs.Case.{starts_with}
use Rattle.version_parts.specs.declared.fields.Local.{Local}
use Rattle.version_parts.specs.declared.fields.Version.{Version}
use Rattle.version_parts.specs.declared.head.Head.{Head}
use Rattle.version_parts.specs.Fields.{no_local, no_version}
use Rattle.version_parts.specs.Head.{head_of}
use Rattle.version_parts.specs.Suffix.{Step, Parts, suffix_at}
use Rattle.version_reading.specs.declared.text.Verdict.{Verdict}
use Rattle.version_reading.specs.declared.text.Verdict.TheVariants.{Accepted, Refused}
use Rattle.version_reading.specs.declared.text.PatternReading.{PatternReading}
use Rattle.version_reading.specs.declared.text.VersionReading.{VersionReading}
use Rattle.version_reading.specs.Label.{label_at}

-- the most bytes that a text or a list has
abbrev pub longest : ℕ
longest = 1024

-- a refusal gives nothing but its number and place
abbrev pub refused_by : Refusal → PatternReading
refused_by e = record { verdict = Refused e; wildcard = false; version = no_version }

abbrev pub refused_with : ℕ → ℕ → PatternReading
refused_with number place = refused_by (refusal number place)

abbrev pub fielded : Head → Option (PreKind × ℕ) → Option ℕ → Option ℕ → Local → Version
fielded h pre post dev local = record {
  epoch = h.epoch;
  release = h.release;
  pre = pre;
  post = post;
  dev = dev;
  local = local;
}

abbrev pub accepted : Bool → Version → PatternReading
accepted wildcard version = record { verdict = Accepted; wildcard = wildcard; version = version }

-- the version that was read, and whether a wildcard stands after it, or why it is refused
abbrev pub reading_of : Result (Version × Bool) Refusal → PatternReading
reading_of (Ok (version, wildcard)) = accepted wildcard version
reading_of (Err e) = refused_by e

-- rule 4: after the release stands `.*`; a version may not have it, and a pattern has nothing at all after it
unfoldable pub starred : Bool → List ℕ → Head → PatternReading
starred wildcards s h =
    cond wildcards
    (cond (ltb (h.at + 2) (length s)) (refused_with 7 (h.at + 2)) (accepted true (fielded h None None None no_local)))
    (refused_with 6 h.at)

-- rule 9: blanks, then the end
abbrev pub ended : List ℕ → Version → ℕ → PatternReading
ended s version end = cond (ltb end (length s)) (refused_with 5 end) (accepted false version)

abbrev pub after_label : List ℕ → Head → Option (PreKind × ℕ) → Option ℕ → Option ℕ → Step Local → PatternReading
after_label s h pre post dev (Ok (local, at)) = ended s (fielded h pre post dev local) (at + front (between blank blank) (drop at s))
after_label s h pre post dev (Err e) = refused_by e

unfoldable pub after_suffix : List ℕ → Head → Option (PreKind × ℕ) → Option ℕ → Option ℕ → ℕ → PatternReading
after_suffix s h pre post dev at = after_label s h pre post dev (label_at s at)

abbrev pub suffixed : List ℕ → Head → Step Parts → PatternReading
suffixed s h (Ok ((pre, post, dev), next)) = after_suffix s h pre post dev next
suffixed s h (Err e) = refused_by e

unfoldable pub after_release : List ℕ → Head → PatternReading
after_release s h = suffixed s h (suffix_at s h.at)

abbrev pub after_head : Bool → List ℕ → Result Head Refusal → PatternReading
after_head wildcards s (Ok h) = cond (starts_with (ascii ".*") (drop h.at s)) (starred wildcards s h) (after_release s h)
after_head wildcards s (Err e) = refused_by e

unfoldable pub pattern_as : Bool → List ℕ → PatternReading
pattern_as wildcards s = cond (ltb longest (length s)) (refused_with 8 longest) (after_head wildcards s (head_of s))

abbrev pub pattern_of : List ℕ → PatternReading
pattern_of s = pattern_as true s

abbrev pub without_wildcard : PatternReading → VersionReading
without_wildcard r = record { verdict = r.verdict; version = r.version }

unfoldable pub version_of : List ℕ → VersionReading
version_of s = without_wildcard (pattern_as false s)

-- the place of a refusal
abbrev pub place_of : Verdict → ℕ
place_of Accepted = 0
place_of (Refused x) = x.place

-- what a caller may count on beside the equation
pub record Read (spec r : PatternReading) : Type 0 where
  pub is : r ≡ spec
  pub few : r.version.release.len ≤ 16
  pub short : r.version.local.len ≤ 16
  pub near : place_of r.verdict ≤ longest

pub record VersionRead (spec r : VersionReading) : Type 0 where
  pub is : r ≡ spec
  pub few : r.version.release.len ≤ 16
  pub short : r.version.local.len ≤ 16
  pub near : place_of r.verdict ≤ longest
