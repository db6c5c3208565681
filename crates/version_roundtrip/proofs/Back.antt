-- The normal text of a value is read back as that value, if it has room, and no other value has that text.
-- Assumes nothing.
use Rattle.chars.specs.declared.spelling.PreKind.{PreKind}
use Rattle.std.specs.Prelude.{Option, Ok}
use mathlib.Core.Path.{◌≡◌, refl, sym, ◌∙◌, ap}
use mathlib.Core.Bool.{false}
use mathlib.Core.List.{List, [], map}
use Prim.Native.Nat.{ℕ, ◌+◌, ◌≤◌}
use native.Mathlib.Omega.{arith}
use lib.ListN.{length, drop}
use borrow.Author.Tests.{le-ltb}
use Rattle.chars.specs.Text.{ascii}
use Rattle.chars.specs.Class.{front}
use Rattle.chars.specs.Case.{starts_with}
use Rattle.version_parts.specs.declared.fields.Release.{Release}
use Rattle.version_parts.specs.declared.fields.Local.{Local}
use Rattle.version_parts.specs.declared.fields.Version.{Version}
use Rattle.version_reading.specs.declared.text.PatternReading.{PatternReading}
use Rattle.version_reading.specs.declared.text.Verdict.TheVariants.{Accepted}
use Rattle.version_parts.specs.Head.{head_with, head_read, head_of}
use Rattle.version_parts.specs.Suffix.{suffix_at}
use Rattle.version_reading.specs.Label.{label_read, label_at}
use Rattle.version_reading.specs.Reading.{fielded, accepted, after_suffix, after_release, after_head, pattern_as, version_of}
use Rattle.version_reading.specs.Value.{Value, label_from, value_of, value_in}
use Rattle.version_roundtrip.specs.Text.{value_text}
use Rattle.version_roundtrip.specs.Readable.{Readable}
use Rattle.version_roundtrip.proofs.Fields.{numbers_of, segments_of, label_listed}
use Rattle.version_roundtrip.proofs.Rests.{at_end}
use Rattle.version_roundtrip.proofs.Words.{words_back}
use Rattle.version_roundtrip.proofs.BackHead.{head_back}
use Rattle.version_roundtrip.proofs.BackSuffix.{quiet, suffix_back}
use Rattle.version_roundtrip.proofs.BackLabel.{label_back}

-- a text is read as the value v by all rules but the limit of its length
record WholeBack (s : List ℕ) (v : Value) : Type 0 where
  version : Version
  read : after_head false s (head_of s) ≡ accepted false version
  says : value_of s version ≡ v

-- head, suffix and label are read, and nothing is left
all_read : (s : List ℕ) (epoch : ℕ) (release : Release) (at : ℕ) (pre : Option (PreKind × ℕ)) (post dev : Option ℕ) (next : ℕ) (local : Local) (end : ℕ) →
    head_of s ≡ head_read epoch release at → starts_with (ascii ".*") (drop at s) ≡ false →
    suffix_at s at ≡ Ok ((pre, post, dev), next) → label_at s next ≡ label_read local end → drop end s ≡ [] →
    after_head false s (head_of s) ≡ accepted false (fielded (head_with epoch release at) pre post dev local)
unfolding after_release after_suffix front
all_read s epoch release at pre post dev next local end head star suffix label left =
    rw (head, star, suffix, label, left, le-ltb (end + 0) (length s) (omega (arith, at_end s end left)))

-- the fields, as a value
value_is : (s : List ℕ) (v : Value) (release : Release) (at : ℕ) (local : Local) → numbers_of release ≡ v.release →
    map label_from (segments_of s local) ≡ v.label → local.len ≤ 16 → length local.spans ≡ 16 →
    value_of s (fielded (head_with v.epoch release at) v.pre v.post v.dev local) ≡ v
unfolding value_of
value_is s v release at local e f few size =
    let label = label_listed s local few size ∙ f in
    λ i. record { epoch = v.epoch; release = e i; pre = v.pre; post = v.post; dev = v.dev; label = label i }

-- the reader has room for the numbers and segments
room_for : (v : Value) → Readable v → (1 ≤ length v.release) × (length v.release ≤ 16) × (length v.label ≤ 16)
room_for v r = (omega (arith, r.some), omega (arith, r.few), omega (arith, r.short))

whole_back : (v : Value) (s : List ℕ) → Readable v → s ≡ value_text v → WholeBack s v
unfolding value_text
whole_back v s r text =
    let sizes = room_for v r in
    let q = quiet v.pre v.post v.dev v.label in
    let head = head_back s _ q v.epoch v.release r.epoch r.release sizes.0 sizes.1 text in
    let at = head.read.next in
    let star : starts_with (ascii ".*") (drop at s) ≡ false = rw head.read.left q.star in
    let suffix = suffix_back s at v.pre v.post v.dev v.label r.pre r.post r.dev head.read.left in
    let label = label_back s suffix.next v.label r.label sizes.2 suffix.left in
    let words = ap (map label_from) label.is ∙ words_back v.label r.label in
    record {
      version = fielded (head_with v.epoch head.release at) v.pre v.post v.dev label.local;
      read =
          all_read s v.epoch head.release at v.pre v.post v.dev suffix.next label.local label.read.next
          head.read.is star suffix.is label.read.is label.read.left;
      says = value_is s v head.release at label.local head.is words label.few label.size;
    }

pub reads_back : (v : Value) → Readable v → length (value_text v) ≤ 1024 →
    ((version_of (value_text v)).verdict ≡ Accepted) × (value_in (value_text v) ≡ v)
unfolding version_of pattern_as
reads_back v r short =
    let whole = whole_back v (value_text v) r refl in
    let fits = le-ltb 1024 (length (value_text v)) short in
    (rw (fits, whole.read), rw (fits, whole.read) whole.says)

-- two values have one text only if they are one value, whatever its length
pub text_says_value : (v w : Value) → Readable v → Readable w → value_text v ≡ value_text w → v ≡ w
text_says_value v w r q e =
    let a = whole_back v (value_text v) r refl in
    let b = whole_back w (value_text v) q e in
    let same : a.version ≡ b.version = ap (λ (x : PatternReading). x.version) (sym a.read ∙ b.read) in
    sym a.says ∙ ap (value_of (value_text v)) same ∙ b.says
