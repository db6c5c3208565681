-- Worked points: the table of `>=4.2,!=4.3`, what it answers, and tables that are not well formed.
-- Assumes nothing.
use Rattle.answers.specs.declared.RefusedInput.TheVariants.{Second}
use Rattle.answers.specs.declared.RefusedInput.{RefusedInput}
use Rattle.std.specs.Prelude.{Result, Bool, Ok, true, false, Err}
use mathlib.Core.Path.{◌≡◌, refl}
use mathlib.Core.List.{List, [], ◌∷◌, ◌++◌, map}
use Prim.Native.Nat.{ℕ}
use Rattle.answers.specs.Refusal.{refusal}
use Rattle.chars.specs.Text.{ascii}
use Rattle.records.specs.Record.{record_at}
use Rattle.ranges.specs.Cut.{top, before, after}
use Rattle.version_reading.specs.Value.{listed, value_of, value_in}
use Rattle.version_order.specs.Versions.{compare_release, compare_key, compare_public}
use Rattle.version_roundtrip.proofs.Extremes.{computed}
use Rattle.version_rows.specs.Normal.{normal_value}
use Rattle.table_reading.specs.Kind.{kind_of}
use Rattle.table_reading.specs.Table.{Tabled, ranges, bad, ranges_from, table_of}
use Rattle.table_reading.specs.Lookup.{looked}

-- where this unfolds, all that lookup computes with does
everything : List ℕ → List ℕ → Tabled × Result Bool RefusedInput
unfolding computed looked table_of ranges_from record_at kind_of normal_value compare_public compare_release compare_key value_of listed
everything s t = (table_of s, looked s t)

abbrev two_ranges : List ℕ
two_ranges = 2 ∷ 0 ∷ 1 ∷ 0 ∷ 2 ∷ 0 ∷ []

abbrev from_4_2 : List ℕ
from_4_2 = 3 ∷ 0 ∷ 3 ∷ 0 ∷ ascii "4.2"

abbrev to_4_3 : List ℕ
to_4_3 = 3 ∷ 0 ∷ 6 ∷ 0 ∷ ascii "4.3"

abbrev after_4_3 : List ℕ
after_4_3 = 3 ∷ 0 ∷ 4 ∷ 0 ∷ ascii "4.3"

abbrev unbounded : List ℕ
unbounded = 0 ∷ 0 ∷ 5 ∷ 0 ∷ []

abbrev example : List ℕ
example = two_ranges ++ (from_4_2 ++ (to_4_3 ++ (after_4_3 ++ unbounded)))

pub example_ranges : table_of example ≡ ranges (
    record { lo = before (value_in (ascii "4.2")); hi = before (value_in (ascii "4.3")) } ∷
    record { lo = after (value_in (ascii "4.3")); hi = top } ∷
    []
    )
unfolding everything
example_ranges = refl

pub example_answers : map (looked example) (ascii "4.2" ∷ ascii "4.3.0+b1" ∷ ascii "v5.0-1" ∷ ascii "x" ∷ []) ≡
    (Ok true) ∷ (Ok false) ∷ (Ok true) ∷ Err (Second (refusal 1 0)) ∷ []
unfolding everything
example_answers = refl

-- ends that touch, an upper end first, a lower end twice, a text that is not normal, and a byte too many
pub not_well_formed : map table_of (
    (two_ranges ++ (from_4_2 ++ (to_4_3 ++ ((3 ∷ 0 ∷ 3 ∷ 0 ∷ ascii "4.3") ++ unbounded)))) ∷
    (two_ranges ++ (unbounded ++ (to_4_3 ++ (after_4_3 ++ unbounded)))) ∷
    (two_ranges ++ (from_4_2 ++ (after_4_3 ++ (after_4_3 ++ unbounded)))) ∷
    (two_ranges ++ ((4 ∷ 0 ∷ 3 ∷ 0 ∷ ascii "v4.2") ++ (to_4_3 ++ (after_4_3 ++ unbounded)))) ∷
    (example ++ (0 ∷ [])) ∷
    []
    ) ≡ bad ∷ bad ∷ bad ∷ bad ∷ bad ∷ []
unfolding everything
not_well_formed = refl
