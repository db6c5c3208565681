-- The operators of clauses, in the order in which they are tried.
use Rattle.std.specs.Prelude.{◌≡◌, cond, List, ℕ, ◌≤◌, length, Option, Some, None}
use Prim.Native.String.{String}
use Rattle.chars.specs.Text.{ascii}
use Rattle.chars.specs.Case.{starts_with}
use Rattle.list_clauses.specs.declared.operator.Operator.{Operator}
use Rattle.list_clauses.specs.declared.operator.Operator.TheVariants.{Equal, NotEqual, Compatible, AtMost, AtLeast, Below, Above}

-- the operator and its length, where the text begins with it; else whatever is tried next
abbrev pub tried : String → Operator → List ℕ → Option (Operator × ℕ) → Option (Operator × ℕ)
tried word operator s next = cond (starts_with (ascii word) s) (Some (operator, (length (ascii word)))) next

unfoldable pub order_of : List ℕ → Option (Operator × ℕ)
order_of s = tried "<=" AtMost s (tried ">=" AtLeast s (tried "<" Below s (tried ">" Above s None)))

-- `===` comes first, and is none
unfoldable pub operator_of : List ℕ → Option (Operator × ℕ)
operator_of s =
    cond (starts_with (ascii "===") s) None
    (tried "==" Equal s (tried "!=" NotEqual s (tried "~=" Compatible s (order_of s))))

abbrev pub operator_length : Option (Operator × ℕ) → ℕ
operator_length (Some (operator, n)) = n
operator_length None = 0

pub record Operated (s : List ℕ) (spec r : Option (Operator × ℕ)) : Type 0 where
  pub is : r ≡ spec
  pub within : operator_length r ≤ length s
