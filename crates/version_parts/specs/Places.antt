-- What stands at a place of the text: blanks, a separator, a number, a number after a mark.
use Rattle.std.specs.Prelude.{◌≡◌, cond, List, ℕ, ◌+◌, ◌≤◌, max, eqb, length, get_or, drop, Option, Result, None, Ok, Some, Err}
use Rattle.answers.specs.declared.Refusal.{Refusal}
use Rattle.answers.specs.Refusal.{refusal}
use Rattle.chars.specs.Class.{class_of, separator}
use Rattle.decimal.specs.Parse.{Leading, leading_of}

-- r is a place of the text that the rule gives as `spec`
pub record Reached (s : List ℕ) (spec r : ℕ) : Type 0 where
  pub is : r ≡ spec
  pub within : r ≤ length s

-- r is the place that the rule gives as `spec`, at or after `at`, and no further than the text goes
pub record Stepped (s : List ℕ) (at spec r : ℕ) : Type 0 where
  pub is : r ≡ spec
  pub from : at ≤ r
  pub within : r ≤ max at (length s)

-- past one separator, if there is one
unfoldable pub separator_end : List ℕ → ℕ → ℕ
separator_end s at = cond (eqb (class_of (get_or s at 0)) separator) (at + 1) at

-- a number and the place after it, if one stands there, or why it is refused
abbrev pub NumberAt : Type 0
NumberAt = Result (Option (ℕ × ℕ)) Refusal

-- the number at the front of a part that begins at `at`, by the place after it; one of 2^64 and more is refused there
abbrev pub placed : ℕ → Leading → NumberAt
placed at (Ok None) = Ok None
placed at (Ok (Some (n, len))) = Ok (Some (n, at + len))
placed at (Err e) = Err (refusal 3 at)

unfoldable pub number_at : List ℕ → ℕ → NumberAt
number_at s at = placed at (leading_of (drop at s))

-- a mark, and a number right after it
unfoldable pub marked_number : ℕ → List ℕ → ℕ → NumberAt
marked_number mark s at = cond (eqb (get_or s at 0) mark) (number_at s (at + 1)) (Ok None)

-- by cases: no number; one, with its value and the place after it; one that is refused
abbrev pub on_number : {A : Type 0} → NumberAt → A → (ℕ → ℕ → A) → (Refusal → A) → A
on_number (Ok None) none read refused = none
on_number (Ok (Some (n, next))) none read refused = read n next
on_number (Err e) none read refused = refused e

abbrev pub number_next : NumberAt → ℕ
number_next (Ok None) = 0
number_next (Ok (Some (n, next))) = next
number_next (Err e) = e.place

pub record NumberedAt (s : List ℕ) (spec r : NumberAt) : Type 0 where
  pub is : r ≡ spec
  pub within : number_next r ≤ length s

-- the place after the mark, where it is there with a digit after it
abbrev pub behind_mark : ℕ → NumberAt → ℕ
behind_mark at (Ok None) = 0
behind_mark at (Ok (Some (n, next))) = at + 1
behind_mark at (Err e) = at + 1

pub record MarkedAt (s : List ℕ) (at : ℕ) (spec r : NumberAt) : Type 0 where
  pub is : r ≡ spec
  pub within : number_next r ≤ length s
  pub behind : behind_mark at r ≤ length s
