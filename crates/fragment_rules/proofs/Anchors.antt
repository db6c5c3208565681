-- Worked points: what is said after some events, and what lent bytes show. They anchor the definitions against changes that would keep every law.
-- Assumes nothing.
use Rattle.std.specs.Prelude.{None, Some}
use mathlib.Core.Path.{◌≡◌, refl}
use mathlib.Core.List.{List, [], ◌∷◌, ◌++◌, map}
use Prim.Native.Nat.{ℕ}
use Prim.Native.Char.{code}
use Prim.Native.String.{String}
use lib.ListN.{length, replicate}
use Rattle.answers.specs.Refusal.{refusal}
use Rattle.chars.specs.Text.{ascii}
use Rattle.chars.specs.Class.{class_of, between, front}
use Rattle.chars.specs.Case.{lower_of, starts_with}
use Rattle.chars.specs.Spelling.{pre_spelling, post_spelling, dev_spelling}
use Rattle.decimal.specs.Parse.{digit_of, value_from, number_of, leading_of}
use Rattle.version_parts.specs.Places.{separator_end, number_at, marked_number}
use Rattle.version_parts.specs.Head.{lead_end, release_from, head_at, head_of}
use Rattle.version_parts.specs.Suffix.{number_or_zero, pre_at, spelled_post, post_at, dev_at, suffix_at}
use Rattle.version_parts.specs.Fields.{no_version}
use Rattle.version_reading.specs.declared.text.Verdict.TheVariants.{Accepted, Refused}
use Rattle.version_reading.specs.Label.{word_end, segments_from, label_at}
use Rattle.version_reading.specs.Reading.{after_release, after_suffix, pattern_as, version_of}
use Rattle.fragment_rules.specs.declared.answer.Answer.{Answer}
use Rattle.fragment_rules.specs.Reader.{fresh, taken, given, said_by}
use Rattle.fragment_rules.specs.Events.{Event, lump, end, reset, run_from}
use Rattle.fragment_rules.specs.Lent.{lent, reader_in, text_in}

abbrev after : List Event → Answer
after es = said_by (run_from fresh es)

-- where this unfolds, all that a reader computes with does
everything : List Event → Answer
unfolding said_by run_from taken version_of pattern_as head_of head_at lead_end release_from after_release suffix_at pre_at post_at spelled_post dev_at
    after_suffix label_at segments_from word_end separator_end number_at marked_number number_or_zero pre_spelling post_spelling
    dev_spelling starts_with leading_of number_of value_from digit_of front between class_of lower_of
everything es = after es

abbrev text : String → Event
text s = lump (ascii s)

-- before the end mark and after a reset, nothing
abbrev unfinished : List (List Event)
unfinished =
    []
    ∷ (text "4." ∷ [])
    ∷ (text "4." ∷ text "" ∷ [])
    ∷ (text "4." ∷ text "" ∷ text "2" ∷ [])
    ∷ (text "4.2" ∷ end ∷ reset ∷ [])
    ∷ []

pub nothing_said : map (λ es. (after es).says) unfinished ≡ replicate 5 None
unfolding everything
nothing_said = refl

-- 1,024 bytes that read as `1` does
abbrev full : List ℕ
full = ascii "1" ++ replicate 1023 (code " ")

pub full_unsaid : (after (lump full ∷ [])).says ≡ None
unfolding everything
full_unsaid = refl

record Point : Type 0 where
  events : List Event
  answer : Answer

abbrev point : List Event → Answer → Point
point es a = record { events = es; answer = a }

-- what a text reads as
abbrev reads : String → Answer
reads s = given (version_of (ascii s))

abbrev refused : Answer
refused = record { says = Some (Refused (refusal 8 1024)); version = no_version }

-- the whole text at the end mark, and nothing from after it or from before a reset; the 1,025th byte is refused at once
abbrev finished : List Point
finished =
    point (text "4." ∷ text "" ∷ text "2" ∷ end ∷ []) (reads "4.2")
    ∷ point (end ∷ []) (reads "")
    ∷ point (text "4.2" ∷ end ∷ text "9" ∷ []) (reads "4.2")
    ∷ point (text "4.2" ∷ end ∷ text "9" ∷ end ∷ []) (reads "4.2")
    ∷ point (text "4.2" ∷ end ∷ reset ∷ text "1" ∷ end ∷ []) (reads "1")
    ∷ point (text "4.2" ∷ reset ∷ text "1" ∷ end ∷ []) (reads "1")
    ∷ point (lump full ∷ end ∷ []) (reads "1")
    ∷ point (lump full ∷ text " " ∷ []) refused
    ∷ point (lump full ∷ text " " ∷ end ∷ []) refused
    ∷ []

pub finished_hold : map (λ p. after p.events) finished ≡ map (λ p. p.answer) finished
unfolding everything
finished_hold = refl

pub one_accepted : (reads "1").says ≡ Some Accepted
unfolding everything
one_accepted = refl

-- where nothing came there is nothing to accept
pub empty_refused : (version_of []).verdict ≡ Refused (refusal 1 0)
unfolding everything
empty_refused = refl

-- lent bytes: a new reader is all zeros
pub fresh_zeros : lent fresh ≡ replicate 1027 0
unfolding lent
fresh_zeros = refl

-- the text that questions are asked of
abbrev shown_after : List Event → List ℕ
shown_after es = text_in (lent (run_from fresh es))

pub shown_hold : map shown_after ((text "4.2" ∷ []) ∷ (text "4.2" ∷ end ∷ []) ∷ []) ≡ [] ∷ ascii "4.2" ∷ []
unfolding run_from taken lent reader_in text_in
shown_hold = refl

-- a count of 1,025, the lower byte first
pub shown_over : length (text_in (replicate 1024 0 ++ (1 ∷ 4 ∷ 0 ∷ []))) ≡ 1025
unfolding reader_in text_in
shown_over = refl
