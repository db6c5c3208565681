-- Cuts between the values of a compared type. A value x itself stands at the cut `before x`: a range holds it exactly if it holds that cut,
-- whatever kinds of end the range has. Definitions only; assumes nothing.
use Rattle.std.specs.Prelude.{Bool, Option, None, Some}
use Prim.Native.Nat.{ℕ, compare}
use Rattle.order.specs.Compare.{Comparison, by, lex, option}
use Rattle.order.specs.Preorder.{at_most}

-- below all, above all, right before a value, right after it
pub data Cut (X : Type 0) : Type 0 where
  bot top : Cut X
  before after : X → Cut X

module _ {X : Type 0} where
  -- bot lies below the cuts at values, and top above them
  abbrev pub level : Cut X → ℕ
  level bot = 0
  level (before x) = 1
  level (after x) = 1
  level top = 2

  -- the value that the cut stands at
  abbrev pub value : Cut X → Option X
  value bot = None
  value (before x) = Some x
  value (after x) = Some x
  value top = None

  -- at one value, before lies below after
  abbrev pub side : Cut X → ℕ
  side bot = 0
  side (before x) = 0
  side (after x) = 1
  side top = 0

  -- by level, then by value, then by side
  abbrev pub compare_cuts : Comparison X → Comparison (Cut X)
  compare_cuts cmp = lex (by level compare) (lex (by value (option cmp)) (by side compare))

  -- the test of order that the theory of tables takes
  abbrev pub le_cut : Comparison X → Cut X → Cut X → Bool
  le_cut cmp = at_most (compare_cuts cmp)
