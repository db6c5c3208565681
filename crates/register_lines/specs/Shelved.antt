-- A shelf that came of lines, entered one after the other and none of them refused; and what such lines say by themselves.
use Rattle.std.specs.Prelude.{◌≡◌, Bool, cond, ◌==◌, List, [], ◌∷◌, ◌++◌, ℕ, ◌*◌, ◌≤◌, eqb, ltb, length, Result, Ok, Err}
use Rattle.std.specs.List.{list_any}
use Rattle.answers.specs.declared.Refusal.{Refusal}
use Rattle.answers.specs.Refusal.{refusal}
use Rattle.answers.specs.YesNo.{says_yes}
use Rattle.list_clauses.specs.List.{Listing, refused, clauses, list_of}
use Rattle.list_accepting.specs.Accept.{accepted}
use Rattle.register_rules.specs.Fit.{most}
use Rattle.register_lines.specs.declared.shelf.Shelf.{Shelf}
use Rattle.register_lines.specs.Line.{id_of, list_in}
use Rattle.register_lines.specs.Enter.{empty_shelf, entered, tables_after}

-- room for the longest tables of as many lists as may be entered
abbrev pub room_for_all : ℕ
room_for_all = most * 14660

pub data Shelved : List (List ℕ) → List ℕ → Shelf → Type 0 where
  nothing : (tables : List ℕ) → room_for_all ≤ length tables → Shelved [] tables empty_shelf
  one_more : (lines : List (List ℕ)) (tables : List ℕ) (shelf : Shelf) (line : List ℕ) (more : Shelf) → Shelved lines tables shelf →
      entered tables shelf line ≡ Ok more → Shelved (lines ++ (line ∷ [])) (tables_after tables shelf line) more

-- whether one of the lines has an identifier
unfoldable pub taken : ℕ → List (List ℕ) → Bool
taken id lines = list_any (λ line. id_of line == id) lines

-- an answer's refusal; number 0 where it has none
abbrev pub refusal_in : Result Shelf Refusal → Refusal
refusal_in (Ok shelf) = refusal 0 0
refusal_in (Err x) = x

abbrev pub list_refusal : Listing → Refusal
list_refusal (refused number place) = refusal number place
list_refusal (clauses cs) = refusal 0 0

-- why a line after those lines is refused: there are as many as may be; it has no identifier; one of them has the same; its list's own
-- refusal. Number 0: it is not
abbrev pub refusal_behind : List (List ℕ) → List ℕ → Refusal
refusal_behind lines line =
    cond (ltb (length lines) most)
    (cond (eqb (id_of line) 0) (refusal 31 0)
    (cond (taken (id_of line) lines) (refusal 32 0) (list_refusal (list_of (list_in line)))))
    (refusal 30 most)

-- the identifiers of the lines whose list accepts a version, clause by clause, in the lines' order
unfoldable pub acceptors : List (List ℕ) → List ℕ → List ℕ
acceptors [] text = []
acceptors (line ∷ lines) text =
    cond (says_yes (accepted (list_in line) text)) (id_of line ∷ acceptors lines text) (acceptors lines text)
