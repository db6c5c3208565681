-- Lines that say a refusal, or a version in its normal text.
use Rattle.std.specs.Prelude.{List, [], ◌∷◌, ◌++◌, ℕ}
use Rattle.answers.specs.declared.Refusal.{Refusal}
use Rattle.chars.specs.Text.{ascii}
use Rattle.decimal.specs.Digits.{decimal}
use Rattle.lines.specs.Window.{line_feed}
use Rattle.version_normal.specs.Normal.{normal_text}

abbrev pub place_text : ℕ → List ℕ
place_text place = ascii " at " ++ decimal place ++ (line_feed ∷ [])

abbrev pub refusal_line : List ℕ → Refusal → List ℕ
refusal_line name r = name ++ decimal r.number ++ place_text r.place

abbrev pub normal_line : List ℕ → List ℕ → List ℕ
normal_line name version = name ++ normal_text version ++ (line_feed ∷ [])
