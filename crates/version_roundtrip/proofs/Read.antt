-- What any text says, if it is accepted: a value that can be read, and whose normal text has at most nine bytes more than the text.
-- Assumes nothing.
use Rattle.answers.specs.declared.Refusal.{Refusal}
use Rattle.chars.specs.declared.spelling.PreKind.{PreKind}
use Rattle.std.specs.Prelude.{Option, None, Result, Ok, Err}
use mathlib.Core.Path.{◌≡◌, refl, subst}
use mathlib.Core.Bool.{Bool, true, false, cond}
use mathlib.Core.List.{List, map}
use Prim.Native.Nat.{ℕ, ◌+◌, ◌≤◌}
use native.Mathlib.Omega.{arith}
use lib.Dec.{ltb}
use lib.ListN.{length, take, drop, length-take, length-map}
use borrow.Author.Tests.{ltb-false}
use Rattle.chars.specs.Text.{ascii}
use Rattle.chars.specs.Class.{blank, between, front}
use Rattle.chars.specs.Case.{starts_with}
use Rattle.version_parts.specs.declared.fields.Local.{Local}
use Rattle.version_parts.specs.declared.fields.Version.{Version}
use Rattle.version_parts.specs.declared.head.Head.{Head}
use Rattle.version_reading.specs.declared.text.PatternReading.{PatternReading}
use Rattle.version_reading.specs.declared.text.Verdict.{Verdict}
use Rattle.version_reading.specs.declared.text.Verdict.TheVariants.{Accepted, Refused}
use Rattle.version_parts.specs.Fields.{no_local, no_version}
use Rattle.version_parts.specs.Head.{head_of}
use Rattle.version_parts.specs.Suffix.{Step, Parts, suffix_at}
use Rattle.version_reading.specs.Label.{label_at}
use Rattle.version_reading.specs.Reading.{longest, fielded, starred, after_label, after_suffix, suffixed, after_release, after_head, pattern_as, pattern_of, version_of}
use Rattle.version_reading.specs.Segment.{spanned}
use Rattle.version_reading.specs.Value.{label_from, value_of}
use Rattle.version_roundtrip.specs.Text.{dotted_all, label_text, value_text}
use Rattle.version_roundtrip.specs.Readable.{Readable}
use Rattle.version_roundtrip.proofs.Fields.{numbers_of, segments_of, label_listed}
use Rattle.version_roundtrip.proofs.Lengths.{parts_length, joined_length}
use Rattle.version_roundtrip.proofs.ReadPlaces.{by_cond}
use Rattle.version_roundtrip.proofs.ReadHead.{HeadRead, HeadSound, head_sound}
use Rattle.version_roundtrip.proofs.ReadSuffix.{SuffixRead, SuffixSound, suffix_sound}
use Rattle.version_roundtrip.proofs.ReadLabel.{SegmentsRead, LabelSound, none_read, label_sound, segments_fit, label_long}

-- the fields v of an accepted text
pub record Said (s : List ℕ) (v : Version) : Type 0 where
  pub few : v.release.len ≤ 16
  pub size : length v.release.numbers ≡ 16
  pub readable : Readable (value_of s v)
  pub short : length s ≤ 1024
  pub grows : length (value_text (value_of s v)) ≤ length s + 9

-- the parts of a text, one after the other
module _ (s : List ℕ) (h : Head) (pre : Option (PreKind × ℕ)) (post dev : Option ℕ) (next : ℕ) (local : Local) (end : ℕ)
    (head : HeadRead s h.epoch h.release h.at) (suffix : SuffixRead s h.at pre post dev next)
    (label : SegmentsRead s next local end) where
  abbrev version : Version
  version = fielded h pre post dev local

  numbers : length (numbers_of h.release) ≡ h.release.len
  numbers = omega (arith, length-take h.release.len h.release.numbers, head.few, head.size)

  segments : length (map label_from (segments_of s local)) ≤ 16
  segments =
      rw (length-map (segments_of s local) label_from, length-map (take local.len local.spans) (spanned s))
      (omega (arith, length-take local.len local.spans, label.size))

  said_readable : Readable (value_of s version)
  unfolding value_of
  said_readable = record {
    epoch = head.epoch_fits;
    some = omega (arith, numbers, head.some);
    few = omega (arith, numbers, head.few);
    release = head.fits;
    pre = suffix.pre_fits;
    post = suffix.post_fits;
    dev = suffix.dev_fits;
    short = rw (label_listed s local label.few label.size) segments;
    label = rw (label_listed s local label.few label.size) (segments_fit (segments_of s local) label.segments);
  }

  said_label : length (label_text (value_of s version).label) ≤ length (dotted_all (segments_of s local))
  unfolding value_of
  said_label = rw (label_listed s local label.few label.size) (label_long (segments_of s local) label.segments)

  said_grows : length (value_text (value_of s version)) ≤ length s + 9
  unfolding value_of
  said_grows =
      let whole = parts_length (value_of s version) in
      let joined = joined_length (numbers_of h.release) (omega (arith, numbers, head.some)) in
      omega (arith, whole, joined, said_label, head.long, suffix.grows, label.long, label.within)

  said : length s ≤ 1024 → Said s version
  said short = record { few = head.few; size = head.size; readable = said_readable; short = short; grows = said_grows }

-- what a reading says, or that it says nothing
abbrev Outcome : List ℕ → Verdict → Version → Type 0
Outcome s Accepted v = Said s v
Outcome s (Refused r) v = v ≡ no_version

abbrev Sound : List ℕ → PatternReading → Type 0
Sound s r = Outcome s r.verdict r.version

-- rule by rule, after a head that was read
module _ (s : List ℕ) (short : length s ≤ 1024) (h : Head) (head : HeadRead s h.epoch h.release h.at) where
  label_read : (pre : Option (PreKind × ℕ)) (post dev : Option ℕ) (next : ℕ) → SuffixRead s h.at pre post dev next →
      Sound s (after_suffix s h pre post dev next)
  unfolding after_suffix
  label_read pre post dev next suffix = go (label_at s next) (label_sound s next suffix.within)
    where
      go : (x : Step Local) → LabelSound s next x → Sound s (after_label s h pre post dev x)
      go (Ok (local, at)) label =
          by_cond (Sound s) (ltb (at + front (between blank blank) (drop at s)) (length s)) (λ f. refl)
          (λ f. said s h pre post dev next local at head suffix label short)
      go (Err e) label = refl

  suffix_read : Sound s (after_release s h)
  unfolding after_release
  suffix_read = go (suffix_at s h.at) (suffix_sound s h.at head.within)
    where
      go : (x : Step Parts) → SuffixSound s h.at x → Sound s (suffixed s h x)
      go (Ok ((pre, post, dev), next)) r = label_read pre post dev next r
      go (Err d) r = refl

  -- a wildcard ends the text, and what stands before it has no suffix and no label
  star_read : (wildcards : Bool) → Sound s (starred wildcards s h)
  unfolding starred
  star_read wildcards =
      by_cond (Sound s) wildcards
      (λ e. by_cond (Sound s) (ltb (h.at + 2) (length s)) (λ f. refl) (λ f. said s h None None None h.at no_local h.at head bare unlabelled short))
      (λ e. refl)
    where
      bare : SuffixRead s h.at None None None h.at
      bare = record { pre_fits = tt; post_fits = tt; dev_fits = tt; grows = omega arith; within = head.within }

      unlabelled : SegmentsRead s h.at no_local h.at
      unlabelled = none_read s h.at head.within

  release_read : (wildcards : Bool) → Sound s (cond (starts_with (ascii ".*") (drop h.at s)) (starred wildcards s h) (after_release s h))
  release_read wildcards =
      by_cond (Sound s) (starts_with (ascii ".*") (drop h.at s)) (λ e. star_read wildcards) (λ e. suffix_read)

head_read : (wildcards : Bool) (s : List ℕ) → length s ≤ 1024 → (x : Result Head Refusal) → HeadSound s x → Sound s (after_head wildcards s x)
head_read wildcards s short (Ok h) head = release_read s short h head wildcards
head_read wildcards s short (Err e) head = refl

reading_sound : (wildcards : Bool) (s : List ℕ) → Sound s (pattern_as wildcards s)
unfolding pattern_as
reading_sound wildcards s =
    by_cond (Sound s) (ltb longest (length s)) (λ e. refl) (λ e. head_read wildcards s (ltb-false _ _ e) (head_of s) (head_sound s))

-- as a pattern, and as a version
pub pattern_said : (s : List ℕ) → (pattern_of s).verdict ≡ Accepted → Said s (pattern_of s).version
pattern_said s e = subst (λ (x : Verdict). Outcome s x (pattern_of s).version) e (reading_sound true s)

outcome : (s : List ℕ) → Outcome s (version_of s).verdict (version_of s).version
unfolding version_of
outcome s = reading_sound false s

pub accepted_said : (s : List ℕ) → (version_of s).verdict ≡ Accepted → Said s (version_of s).version
accepted_said s e = subst (λ (x : Verdict). Outcome s x (version_of s).version) e (outcome s)

-- also of a refused text, which has no fields
abbrev pub Shaped : Version → Type 0
Shaped v = (v.release.len ≤ 16) × (length v.release.numbers ≡ 16)

outcome_shape : (s : List ℕ) (x : Verdict) (v : Version) → Outcome s x v → Shaped v
outcome_shape s Accepted v o = (o.few, o.size)
outcome_shape s (Refused r) v o = rw o (omega arith, refl)

pub pattern_shape : (s : List ℕ) → Shaped (pattern_of s).version
pattern_shape s = outcome_shape s (pattern_of s).verdict (pattern_of s).version (reading_sound true s)

pub release_shape : (s : List ℕ) → Shaped (version_of s).version
release_shape s = outcome_shape s (version_of s).verdict (version_of s).version (outcome s)
