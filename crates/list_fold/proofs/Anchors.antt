-- Worked points, by computation from the bytes of a list. They anchor the definitions against changes that would keep every law.
-- Assumes nothing.
use mathlib.Core.Path.{◌≡◌, refl}
use mathlib.Core.List.{List, [], ◌∷◌, map}
use Prim.Native.Nat.{ℕ}
use Prim.Native.String.{String}
use Rattle.chars.specs.Text.{ascii}
use Rattle.chars.specs.Class.{class_of, between, front}
use Rattle.chars.specs.Case.{lower_of, starts_with}
use Rattle.chars.specs.Spelling.{pre_spelling, post_spelling, dev_spelling}
use Rattle.decimal.specs.Parse.{digit_of, value_from, number_of, leading_of}
use Rattle.ranges.specs.Range.{Range}
use Rattle.version_parts.specs.Places.{separator_end, number_at, marked_number}
use Rattle.version_parts.specs.Head.{lead_end, release_from, after_epoch, head_at, head_of}
use Rattle.version_parts.specs.Suffix.{number_or_zero, pre_at, spelled_post, post_at, dev_at, suffix_at}
use Rattle.version_reading.specs.Label.{word_end, segments_from, label_at}
use Rattle.version_reading.specs.Reading.{starred, after_release, after_suffix, pattern_as}
use Rattle.version_reading.specs.Value.{value_of}
use Rattle.version_order.specs.Versions.{compare_release, compare_key, compare_public}
use Rattle.version_prefix.specs.Prefix.{next_prefix}
use Rattle.list_clauses.proofs.Computed.{computed_list}
use Rattle.list_ends.specs.Number.{place_from, place_number}
use Rattle.list_fold.specs.Ranges.{range}
use Rattle.list_fold.specs.Numbered.{numbered}

record Point : Type 0 where
  list : String
  ranges : List (Range ℕ)

abbrev point : String → List (Range ℕ) → Point
point list ranges = record { list = list; ranges = ranges }

-- the ends of the first clause are 2 and 3, of the second 4 and 5
abbrev points : List Point
points =
    point "" (range 0 1 ∷ [])
    ∷ point ">=4.2" (range 2 1 ∷ [])
    ∷ point "<=4.2" (range 0 3 ∷ [])
    ∷ point ">=4.2,!=4.3" (range 2 4 ∷ range 5 1 ∷ [])
    ∷ point "!=4.3,>=4.2" (range 4 2 ∷ range 3 1 ∷ [])
    -- of equal ends the first
    ∷ point ">=4.2,>=4.2.0" (range 2 1 ∷ [])
    ∷ point "==4.2,<=4.2.0" (range 2 3 ∷ [])
    -- one is right before, the other right after
    ∷ point ">4.2,<=4.2" []
    ∷ point ">=4.2,<=4.2" (range 2 5 ∷ [])
    ∷ point "!=4.2.*,==4.*" (range 4 2 ∷ range 3 5 ∷ [])
    -- refused
    ∷ point ">=4.2,4.3" []
    ∷ []

pub points_hold : map (λ p. numbered (ascii p.list)) points ≡ map (λ p. p.ranges) points
unfolding computed_list pattern_as head_of head_at after_epoch lead_end release_from starred after_release suffix_at pre_at post_at spelled_post dev_at after_suffix
    label_at segments_from word_end separator_end number_at marked_number number_or_zero pre_spelling post_spelling dev_spelling
    starts_with leading_of number_of value_from digit_of front between class_of lower_of value_of compare_release compare_key compare_public next_prefix
    place_from place_number numbered
points_hold = refl
