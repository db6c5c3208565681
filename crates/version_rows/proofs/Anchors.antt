-- Worked points of rows and of normal texts, by computation from the bytes.
-- Assumes nothing.
use mathlib.Core.Path.{◌≡◌, refl}
use mathlib.Core.Bool.{Bool, true, false}
use mathlib.Core.List.{List, [], ◌∷◌, ◌++◌, map}
use Prim.Native.Nat.{ℕ}
use Prim.Native.String.{String}
use lib.ListN.{replicate}
use Rattle.chars.specs.Text.{ascii}
use Rattle.decimal.specs.Parse.{largest}
use Rattle.version_parts.specs.Head.{after_epoch}
use Rattle.version_reading.specs.Reading.{starred}
use Rattle.version_reading.specs.Value.{listed, value_of, value_in}
use Rattle.version_roundtrip.proofs.Extremes.{computed}
use Rattle.version_rows.specs.Row.{row_of, row_begins}
use Rattle.version_rows.specs.Normal.{normal_value, is_there}

abbrev row : String → List ℕ
row text = row_of (value_in (ascii text))

-- where this unfolds, all that the points compute with does
everything : List ℕ → List ℕ → Bool × List ℕ
unfolding computed after_epoch starred row_of row_begins normal_value value_of listed
everything s t = (is_there (normal_value s), t)

-- epoch, release, kind, pre, whether there is a post, post, dev
pub rows_are : map row ("1!4.2.post3" ∷ "4.0.1rc2.dev5+b1" ∷ "4" ∷ []) ≡
    (1 ∷ 4 ∷ 2 ∷ (replicate 14 0 ++ (6 ∷ 0 ∷ 1 ∷ 3 ∷ largest ∷ [])))
    ∷ (0 ∷ 4 ∷ 0 ∷ 1 ∷ (replicate 13 0 ++ (4 ∷ 2 ∷ 0 ∷ 0 ∷ 5 ∷ [])))
    ∷ (0 ∷ 4 ∷ (replicate 15 0 ++ (5 ∷ 0 ∷ 0 ∷ 0 ∷ 0 ∷ [])))
    ∷ []
unfolding everything
rows_are = refl

-- what `==4.0.*` matches
pub rows_begin_with : map (λ w. row_begins 2 (row "4.0") (row w)) ("4" ∷ "4.0.7a1" ∷ "4.1" ∷ "1!4.0" ∷ []) ≡ true ∷ true ∷ false ∷ false ∷ []
unfolding everything
rows_begin_with = refl

pub normal_texts : map (λ text. is_there (normal_value (ascii text)))
    ("4.2" ∷ "1!2.3.4.5.6rc1.post2.dev3" ∷ "18446744073709551615" ∷ "v4.2" ∷ "4.02" ∷ "4.2-1" ∷ "4.2+b1" ∷ "4.*" ∷ []) ≡
    true ∷ true ∷ true ∷ false ∷ false ∷ false ∷ false ∷ false ∷ []
unfolding everything
normal_texts = refl
