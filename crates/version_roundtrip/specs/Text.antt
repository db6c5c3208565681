-- The normal text of a value: what a version says, written in its one way.
use Rattle.chars.specs.declared.spelling.PreKind.{PreKind}
use Rattle.std.specs.Prelude.{List, [], ◌∷◌, ◌++◌, map, ℕ, Option}
use Prim.Native.Char.{code}
use Rattle.chars.specs.Text.{ascii}
use Rattle.decimal.specs.Digits.{decimal}
use Rattle.version_reading.specs.Value.{LocalSegment, number, text, Value}
use Rattle.version_normal.specs.Normal.{epoch_text, pre_text, part_text}

-- texts, each after a dot
abbrev pub dotted_all : List (List ℕ) → List ℕ
dotted_all [] = []
dotted_all (x ∷ xs) = code "." ∷ (x ++ dotted_all xs)

-- texts, joined by dots
abbrev pub joined_all : List (List ℕ) → List ℕ
joined_all [] = []
joined_all (x ∷ xs) = x ++ dotted_all xs

-- a segment of a label
abbrev pub word : LocalSegment → List ℕ
word (number n) = decimal n
word (text bytes) = bytes

-- a label, after a plus unless it is empty
abbrev pub label_text : List LocalSegment → List ℕ
label_text [] = []
label_text (x ∷ xs) = code "+" ∷ joined_all (map word (x ∷ xs))

-- what stands from the development release on, from the post-release on, and from the pre-release on
abbrev pub from_dev : Option ℕ → List LocalSegment → List ℕ
from_dev dev label = part_text (ascii ".dev") dev ++ label_text label

abbrev pub from_post : Option ℕ → Option ℕ → List LocalSegment → List ℕ
from_post post dev label = part_text (ascii ".post") post ++ from_dev dev label

abbrev pub from_pre : Option (PreKind × ℕ) → Option ℕ → Option ℕ → List LocalSegment → List ℕ
from_pre pre post dev label = pre_text pre ++ from_post post dev label

unfoldable pub value_text : Value → List ℕ
value_text v =
    epoch_text v.epoch ++ (joined_all (map decimal v.release) ++ from_pre v.pre v.post v.dev v.label)
