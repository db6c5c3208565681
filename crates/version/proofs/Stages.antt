-- What a text that is not too long comes to after its release, stage by stage: the wildcard, the optional parts, the label, the end.
-- Assumes nothing.
use Rattle.std.specs.Prelude.{Err}
use mathlib.Core.Path.{◌≡◌, refl}
use mathlib.Core.Bool.{Bool, true, false}
use mathlib.Core.List.{List}
use Prim.Native.Nat.{ℕ, ◌+◌, ◌≤◌, ◌<◌}
use lib.ListN.{length, drop}
use borrow.Author.Tests.{lt-ltb, le-ltb}
use Rattle.answers.specs.Refusal.{refusal}
use Rattle.chars.specs.Text.{ascii}
use Rattle.chars.specs.Class.{blank, between, front}
use Rattle.chars.specs.Case.{starts_with}
use Rattle.version_parts.specs.declared.fields.Version.{Version}
use Rattle.version_parts.specs.declared.head.Head.{Head}
use Rattle.version_reading.specs.declared.text.Verdict.TheVariants.{Accepted}
use Rattle.version_parts.specs.Suffix.{pre_at, post_at, dev_at, suffix_from, after_pre, after_post, suffix_at}
use Rattle.version_reading.specs.Label.{word_end, label_refused, label_at}
use Rattle.version_reading.specs.Reading.{
  longest,
  refused_with,
  fielded,
  starred,
  ended,
  after_suffix,
  suffixed,
  after_release,
  pattern_as,
}
use Rattle.version.specs.Refusals.{Released, Plain, PreRead, PostRead, DevRead, Segmented, Labelled}
use Rattle.version.proofs.Releases.{head_read}
use Rattle.version.proofs.Segments.{so_far, whole, due_missing, due_over}

module _ (wildcards : Bool) (s : List ℕ) (short : length s ≤ longest) where
  -- the release was read up to `at`, where `.*` may follow
  module _ {at : ℕ} (r : Released s at) where
    star_due : starts_with (ascii ".*") (drop at s) ≡ true → starred wildcards s (head_read r).head ≡ pattern_as wildcards s
    unfolding pattern_as
    star_due e = rw (le-ltb _ _ short, ← (head_read r).is, (head_read r).ends, e)

    suffix_due : starts_with (ascii ".*") (drop at s) ≡ false → suffixed s (head_read r).head (suffix_at s at) ≡ pattern_as wildcards s
    unfolding pattern_as after_release
    suffix_due e = rw (le-ltb _ _ short, ← (head_read r).is, (head_read r).ends, e)

    module _ (star : starts_with (ascii ".*") (drop at s) ≡ true) where
      pub star_refused : wildcards ≡ false → refused_with 6 at ≡ pattern_as wildcards s
      unfolding starred
      star_refused w = rw (← star_due star, w, (head_read r).ends)

      pub star_not_last : wildcards ≡ true → at + 2 < length s → refused_with 7 (at + 2) ≡ pattern_as wildcards s
      unfolding starred
      star_not_last w h = rw (← star_due star, w, (head_read r).ends, lt-ltb _ _ h)

      pub star_last : wildcards ≡ true → length s ≤ at + 2 → (pattern_as wildcards s).verdict ≡ Accepted
      unfolding starred
      star_last w h = rw (← star_due star, w, (head_read r).ends, le-ltb _ _ h)

  -- the optional parts, one after the other
  abbrev head_in : {at : ℕ} → Plain s at → Head
  head_in p = (head_read p.released).head

  pre_due : {at : ℕ} (p : Plain s at) → suffixed s (head_in p) (suffix_from s (pre_at s at)) ≡ pattern_as wildcards s
  unfolding suffix_at
  pre_due p = suffix_due p.released p.no_star

  post_due : {at : ℕ} (p : PreRead s at) → suffixed s (head_in p.plain) (after_pre s p.pre (post_at s at)) ≡ pattern_as wildcards s
  post_due p = rw p.read at (pre_due p.plain)

  dev_due : {at : ℕ} (p : PostRead s at) →
      suffixed s (head_in p.before.plain) (after_post s p.before.pre p.post (dev_at s at)) ≡ pattern_as wildcards s
  dev_due p = rw p.read at (post_due p.before)

  label_due : {at : ℕ} (d : DevRead s at) →
      after_suffix s (head_in d.before.before.plain) d.before.before.pre d.before.post d.dev at ≡ pattern_as wildcards s
  label_due d = rw d.read at (dev_due d.before)

  -- the number of one is too big
  pub pre_big : {at : ℕ} (d : ℕ) → Plain s at → pre_at s at ≡ Err (refusal 3 d) → refused_with 3 d ≡ pattern_as wildcards s
  pre_big d p e = rw e at (pre_due p)

  pub post_big : {at : ℕ} (d : ℕ) → PreRead s at → post_at s at ≡ Err (refusal 3 d) → refused_with 3 d ≡ pattern_as wildcards s
  post_big d p e = rw e at (post_due p)

  pub dev_big : {at : ℕ} (d : ℕ) → PostRead s at → dev_at s at ≡ Err (refusal 3 d) → refused_with 3 d ≡ pattern_as wildcards s
  dev_big d p e = rw e at (dev_due p)

  -- the label is refused where a segment is due
  by_label : {at n p : ℕ} → DevRead s at → label_refused n p ≡ label_at s at → refused_with n p ≡ pattern_as wildcards s
  unfolding after_suffix
  by_label d e = rw (← e) at (label_due d)

  pub segment_missing : {at count : ℕ} → Segmented s at count → word_end s at ≡ at → refused_with 4 at ≡ pattern_as wildcards s
  segment_missing g e = let f = so_far g in by_label f.before (due_missing f e)

  pub segment_over : {at : ℕ} → Segmented s at 16 → (word_end s at ≡ at → ⊥) → refused_with 10 at ≡ pattern_as wildcards s
  segment_over g some = let f = so_far g in by_label f.before (due_over f some refl)

  -- the label was read up to `at`, and blanks up to `end`
  module _ {at end : ℕ} (l : Labelled s at) (b : end ≡ at + front (between blank blank) (drop at s)) where
    fields : Version
    fields =
        let w = whole l in
        fielded (head_in w.before.before.before.plain) w.before.before.before.pre w.before.before.post w.before.dev w.local

    end_due : ended s fields end ≡ pattern_as wildcards s
    unfolding after_suffix fields
    end_due = let w = whole l in rw b (rw (← w.same) at (label_due w.before))

    pub end_left_over : end < length s → refused_with 5 end ≡ pattern_as wildcards s
    end_left_over h = rw (lt-ltb _ _ h) at end_due

    pub end_reached : length s ≤ end → (pattern_as wildcards s).verdict ≡ Accepted
    end_reached h = rw (← end_due, le-ltb _ _ h)
