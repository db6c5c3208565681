-- What the quick way finds in a normal text: its parts, and the plain version that they make. What is found is right (`normal_value`); nothing
-- is said of what is not found.
use Rattle.std.specs.Prelude.{◌≡◌, List, [], ◌∷◌, ◌++◌, map, ℕ, ◌≤◌, length, take, drop, replicate, Option, Some, IfSome}
use Prim.Native.Char.{code}
use Rattle.order.specs.All.{All}
use Rattle.decimal.specs.Digits.{decimal}
use Rattle.version_reading.specs.declared.plain.PlainHead.{PlainHead}
use Rattle.version_reading.specs.declared.plain.Plain.{Plain}
use Rattle.version_reading.specs.Plain.{Filled, FilledPlain, whole_version}
use Rattle.version_reading.specs.Value.{value_of}
use Rattle.version_normal.specs.Normal.{pre_text, part_text}
use Rattle.version_roundtrip.specs.Text.{joined_all}
use Rattle.version_roundtrip.specs.Readable.{Fits, PreFits, PartFits}
use Rattle.version_rows.specs.declared.figures.PartAt.{PartAt}
use Rattle.version_rows.specs.declared.normal_plain.PreAt.{PreAt}
use Rattle.version_rows.specs.Normal.{normal_value}

-- the text is the part, written after its name, and what s holds from the place after it on
pub record PartRead (s text name : List ℕ) (r : PartAt) : Type 0 where
  pub written : text ≡ part_text name r.part ++ drop r.next s
  pub within : r.next ≤ length s
  pub fits : PartFits r.part

pub record PreRead (s : List ℕ) (at : ℕ) (r : PreAt) : Type 0 where
  pub written : drop at s ≡ pre_text r.pre ++ drop r.next s
  pub within : r.next ≤ length s
  pub fits : PreFits r.pre

-- the first two release numbers, and the place after them
pub record TwoRead (s : List ℕ) (first second at : ℕ) : Type 0 where
  pub written : s ≡ decimal first ++ (code "." ∷ (decimal second ++ drop at s))
  pub within : at ≤ length s
  pub one : Fits first
  pub two : Fits second

-- the release numbers that are there
abbrev pub numbers_in : PlainHead → List ℕ
numbers_in h = take h.count (h.first ∷ h.second ∷ h.third ∷ h.fourth ∷ replicate 12 0)

pub record HeadRead (s : List ℕ) (r : PlainHead) : Type 0 where
  pub written : s ≡ joined_all (map decimal (numbers_in r)) ++ drop r.at s
  pub within : r.at ≤ length s
  pub fits : All Fits (numbers_in r)
  pub few : r.count ≤ 4
  pub filled : Filled r.count r.first r.second r.third r.fourth

-- s is the normal text of the plain version
pub record NormalPlain (s : List ℕ) (v : Plain) : Type 0 where
  pub said : normal_value s ≡ Some (value_of [] (whole_version v))
  pub filled : FilledPlain v

abbrev pub NormalPlainRead : List ℕ → Option Plain → Type 0
NormalPlainRead s r = IfSome r (NormalPlain s)
