-- The class of a byte by the byte ranges, and runs of bytes by a test of each.
use Rattle.std.specs.Prelude.{◌≡◌, Bool, true, false, cond, List, [], ◌∷◌, ℕ, suc, ◌*◌, ◌≤◌, leb, eqb, length}
use Prim.Native.Char.{code}

abbrev pub other : ℕ
other = 0

abbrev pub blank : ℕ
blank = 1

abbrev pub separator : ℕ
separator = 2

abbrev pub digit : ℕ
digit = 3

abbrev pub letter : ℕ
letter = 4

abbrev pub in_range : ℕ → ℕ → ℕ → Bool
in_range lo hi b = cond (leb lo b) (leb b hi) false

abbrev pub is_digit : ℕ → Bool
is_digit b = in_range (code "0") (code "9") b

abbrev pub is_letter : ℕ → Bool
is_letter b = cond (in_range (code "A") (code "Z") b) true (in_range (code "a") (code "z") b)

abbrev pub is_separator : ℕ → Bool
is_separator b = cond (eqb b (code ".")) true (cond (eqb b (code "_")) true (eqb b (code "-")))

-- a space, a tab, a line feed, a form feed and a carriage return; not byte 11
abbrev pub is_blank : ℕ → Bool
is_blank b = cond (eqb b 32) true (cond (eqb b 9) true (cond (eqb b 10) true (cond (eqb b 12) true (eqb b 13))))

unfoldable pub class_of : ℕ → ℕ
class_of b = cond (is_digit b) digit (cond (is_letter b) letter (cond (is_separator b) separator (cond (is_blank b) blank other)))

-- r is the byte's class; `seen` says in one bound that byte 0, which stands for the end of a text, has class 0
pub record Classed (b r : ℕ) : Type 0 where
  pub is : r ≡ class_of b
  pub seen : r ≤ 4 * b

-- the byte's class lies from lo to hi
unfoldable pub between : ℕ → ℕ → ℕ → Bool
between lo hi b = in_range lo hi (class_of b)

-- how many bytes at the front of s pass the test
unfoldable pub front : (ℕ → Bool) → List ℕ → ℕ
front p [] = 0
front p (b ∷ s) = cond (p b) (suc (front p s)) 0

pub record Counted (p : ℕ → Bool) (s : List ℕ) (r : ℕ) : Type 0 where
  pub is : r ≡ front p s
  pub within : r ≤ length s
