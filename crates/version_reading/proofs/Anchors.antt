-- Worked points of what the quick way finds, by computation from the bytes. They anchor the definitions against changes that would keep the
-- shape of every proof. Assumes nothing.
use Rattle.std.specs.Prelude.{is_some}
use mathlib.Core.Path.{◌≡◌, refl}
use mathlib.Core.Bool.{Bool, true, false}
use mathlib.Core.List.{List, [], ◌∷◌, map}
use Prim.Native.Nat.{ℕ}
use lib.ListN.{replicate}
use Rattle.chars.specs.Text.{ascii}
use Rattle.chars.specs.Class.{class_of, between, front}
use Rattle.chars.specs.Case.{lower_of, starts_with, beginning_of}
use Rattle.chars.specs.Spelling.{pre_spelling, post_spelling, dev_spelling}
use Rattle.decimal.specs.Parse.{digit_of, value_from, number_of, leading_of}
use Rattle.version_parts.specs.Places.{separator_end, number_at, marked_number}
use Rattle.version_parts.specs.Suffix.{number_or_zero, pre_at, spelled_post, post_at, dev_at, suffix_at}
use Rattle.version_reading.specs.Plain.{after_fourth, after_third, after_second, after_first, plain_head_of, plain_at, plain_of}

abbrev found : List (List ℕ) → List Bool
found texts = map (λ s. is_some (plain_of s)) texts

-- plain versions
pub worked : found (ascii "1" ∷ ascii "1.2.3.4" ∷ ascii "1.0rc2" ∷ ascii "1-3.dev0" ∷ []) ≡ replicate 4 true
unfolding plain_of plain_at plain_head_of after_first after_second after_third after_fourth suffix_at pre_at post_at spelled_post dev_at number_or_zero
    separator_end number_at marked_number leading_of number_of value_from digit_of pre_spelling post_spelling dev_spelling beginning_of
    starts_with lower_of front between class_of
worked = refl

-- an epoch, a wildcard, a fifth number, a blank and a label are left to the rules
pub left_to_the_rules : found (ascii "1!2" ∷ ascii "1.*" ∷ ascii "1.2.3.4.5" ∷ ascii "1 " ∷ ascii "1+a" ∷ []) ≡ replicate 5 false
unfolding plain_of plain_at plain_head_of after_first after_second after_third after_fourth suffix_at pre_at post_at spelled_post dev_at number_or_zero
    separator_end number_at marked_number leading_of number_of value_from digit_of pre_spelling post_spelling dev_spelling beginning_of
    starts_with lower_of front between class_of
left_to_the_rules = refl
