-- Worked points of what lists accept, by computation from the bytes. They anchor the definitions against changes that would keep every law.
-- Assumes nothing.
use Rattle.answers.specs.declared.RefusedInput.TheVariants.{First, Second}
use Rattle.answers.specs.declared.RefusedInput.{RefusedInput}
use Rattle.std.specs.Prelude.{Result, Bool, Ok, true, false, Err}
use mathlib.Core.Path.{◌≡◌, refl}
use mathlib.Core.List.{List, [], ◌∷◌, map}
use Prim.Native.String.{String}
use Rattle.answers.specs.Refusal.{refusal}
use Rattle.chars.specs.Text.{ascii}
use Rattle.chars.specs.Class.{class_of, between, front}
use Rattle.chars.specs.Case.{lower_of, starts_with}
use Rattle.chars.specs.Spelling.{pre_spelling, post_spelling, dev_spelling}
use Rattle.decimal.specs.Parse.{digit_of, value_from, number_of, leading_of}
use Rattle.version_parts.specs.Places.{separator_end, number_at, marked_number}
use Rattle.version_parts.specs.Head.{lead_end, release_from, after_epoch, head_at, head_of}
use Rattle.version_parts.specs.Suffix.{number_or_zero, pre_at, spelled_post, post_at, dev_at, suffix_at}
use Rattle.version_reading.specs.Label.{word_end, segments_from, label_at}
use Rattle.version_reading.specs.Reading.{starred, after_release, after_suffix, pattern_as, version_of}
use Rattle.version_reading.specs.Value.{value_of}
use Rattle.version_order.specs.Versions.{compare_release, compare_key, compare_public}
use Rattle.version_prefix.specs.Prefix.{prefix_matches}
use Rattle.list_clauses.proofs.Computed.{computed_list}
use Rattle.list_accepting.specs.Accept.{holds, accepted}

record Point : Type 0 where
  list : String
  version : String
  answer : Result Bool RefusedInput

abbrev point : String → String → Result Bool RefusedInput → Point
point list version answer = record { list = list; version = version; answer = answer }

abbrev points : List Point
points =
    point "~=4.2.1" "4.2.9" (Ok true)
    ∷ point "~=4.2.1" "4.3" (Ok false)
    ∷ point "~=4.2.1" "4.2" (Ok false)
    ∷ point "==4.0.*" "4" (Ok true)
    ∷ point "==4.0.*" "1!4" (Ok false)
    ∷ point "!=4.0.*" "4.1" (Ok true)
    ∷ point "==4.3" "4.3.0+b1" (Ok true)
    ∷ point ">=4.2,!=4.3" "4.2" (Ok true)
    ∷ point ">=4.2,!=4.3" "4.3.0+b1" (Ok false)
    ∷ point "<=4.2" "4.2" (Ok true)
    ∷ point "<4.2" "4.2" (Ok false)
    ∷ point ">4.2" "4.2.post1" (Ok true)
    ∷ point "" "1" (Ok true)
    ∷ point " " "x" (Err (Second (refusal 1 0)))
    ∷ point "4.2" "x" (Err (First (refusal 13 0)))
    ∷ point " ===4.2" "1" (Err (First (refusal 13 1)))
    ∷ point ">1 , " "1" (Err (First (refusal 12 4)))
    ∷ point ">1, <2.*" "1" (Err (First (refusal 14 5)))
    ∷ point "==1+a" "1" (Err (First (refusal 15 2)))
    ∷ point "~=1" "1" (Err (First (refusal 16 2)))
    ∷ point ">=1.x" "1" (Err (First (refusal 5 3)))
    ∷ []

-- the answers that a wrong definition would change
pub worked : map (λ p. accepted (ascii p.list) (ascii p.version)) points ≡ map (λ p. p.answer) points
unfolding computed_list accepted holds prefix_matches compare_public compare_key compare_release value_of version_of pattern_as starred head_of head_at lead_end
    release_from after_epoch after_release suffix_at pre_at post_at spelled_post dev_at after_suffix label_at segments_from word_end separator_end number_at
    marked_number number_or_zero pre_spelling post_spelling dev_spelling starts_with leading_of number_of value_from digit_of front between
    class_of lower_of
worked = refl
