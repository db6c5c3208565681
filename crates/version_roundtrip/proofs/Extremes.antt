-- A normal text with nine bytes more occurs, and so does one that is too long to be read: by computation.
-- Assumes nothing.
use mathlib.Core.Path.{◌≡◌, refl}
use mathlib.Core.List.{List, ◌++◌}
use Prim.Native.Nat.{ℕ}
use Prim.Native.Char.{code}
use lib.ListN.{length, replicate}
use Rattle.answers.specs.Refusal.{refusal}
use Rattle.chars.specs.Text.{ascii}
use Rattle.chars.specs.Class.{class_of, between, front}
use Rattle.chars.specs.Case.{lower_of, lowered, starts_with}
use Rattle.chars.specs.Spelling.{pre_spelling, post_spelling, dev_spelling}
use Rattle.decimal.specs.Digits.{digits, decimal}
use Rattle.decimal.specs.Parse.{digit_of, value_from, number_of, leading_of}
use Rattle.version_reading.specs.declared.text.Verdict.{Verdict}
use Rattle.version_reading.specs.declared.text.Verdict.TheVariants.{Accepted, Refused}
use Rattle.version_parts.specs.Places.{separator_end, number_at, marked_number}
use Rattle.version_parts.specs.Head.{lead_end, release_from, head_at, head_of}
use Rattle.version_parts.specs.Suffix.{number_or_zero, pre_at, spelled_post, post_at, dev_at, suffix_at}
use Rattle.version_reading.specs.Label.{word_end, segments_from, label_at}
use Rattle.version_reading.specs.Segment.{segment_of, segment_bytes}
use Rattle.version_reading.specs.Reading.{after_release, after_suffix, pattern_as, version_of}
use Rattle.version_normal.specs.Normal.{
  dotted,
  joined,
  epoch_text,
  release_text,
  segment_text,
  label_text,
  front_text,
  back_text,
  version_text,
  normal_text,
}

-- an accepted text of `from` bytes, whose normal text has `to` bytes
pub record Grown (s : List ℕ) (from to : ℕ) : Type 0 where
  pub accepted : (version_of s).verdict ≡ Accepted
  pub size : length s ≡ from
  pub grown : length (normal_text s) ≡ to

-- where this unfolds, all that reading and normal text compute with does
unfoldable pub computed : List ℕ → Verdict × List ℕ
unfolding version_of pattern_as head_of head_at lead_end release_from after_release suffix_at pre_at post_at spelled_post dev_at after_suffix
    label_at segments_from word_end separator_end number_at marked_number number_or_zero pre_spelling post_spelling dev_spelling
    starts_with leading_of number_of value_from digit_of front between class_of lower_of normal_text version_text front_text back_text epoch_text
    release_text joined dotted label_text segment_text segment_of segment_bytes lowered decimal digits
computed s = ((version_of s).verdict, normal_text s)

pub nine_more : Grown (ascii "1crdev") 6 15
unfolding computed
nine_more = record { accepted = refl; size = refl; grown = refl }

pub nine_more_text : normal_text (ascii "1crdev") ≡ ascii "1rc0.post0.dev0"
unfolding computed
nine_more_text = refl

-- a longest text whose normal text is a byte too long
abbrev full : List ℕ
full = ascii "1a+" ++ replicate 1021 (code "x")

pub one_over : Grown full 1024 1025
unfolding computed
one_over = record { accepted = refl; size = refl; grown = refl }

pub one_over_refused : (version_of (normal_text full)).verdict ≡ Refused (refusal 8 1024)
unfolding computed
one_over_refused = refl

pub nine_over : Grown (ascii "1crdev+" ++ replicate 1017 (code "x")) 1024 1033
unfolding computed
nine_over = record { accepted = refl; size = refl; grown = refl }
