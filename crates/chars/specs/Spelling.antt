-- The spellings of the optional parts, in the order in which they are tried.
use Rattle.std.specs.Prelude.{◌≡◌, cond, List, [], ◌∷◌, ℕ, suc, ◌≤◌, eqb, length, Option, Some, None}
use Prim.Native.String.{String}
use Rattle.chars.specs.Text.{ascii}
use Rattle.chars.specs.Case.{starts_with}
use Rattle.chars.specs.declared.spelling.PreKind.{PreKind}
use Rattle.chars.specs.declared.spelling.PreKind.TheVariants.{Alpha, Beta, Rc}

-- the kind and the length of a word that the text begins with; else whatever is tried next
abbrev pub tried : String → PreKind → List ℕ → Option (PreKind × ℕ) → Option (PreKind × ℕ)
tried word kind s next = cond (starts_with (ascii word) s) (Some (kind, (length (ascii word)))) next

-- the spellings of a pre-release, and the kind that each gives
abbrev pub pre_spellings : List (String × PreKind)
pre_spellings =
    ("alpha", Alpha)
    ∷ ("beta", Beta)
    ∷ ("preview", Rc)
    ∷ ("pre", Rc)
    ∷ ("rc", Rc)
    ∷ ("a", Alpha)
    ∷ ("b", Beta)
    ∷ ("c", Rc)
    ∷ []

abbrev pub tried_all : List (String × PreKind) → List ℕ → Option (PreKind × ℕ)
tried_all [] s = None
tried_all (p ∷ ps) s = tried p.0 p.1 s (tried_all ps s)

unfoldable pub pre_spelling : List ℕ → Option (PreKind × ℕ)
pre_spelling s = tried_all pre_spellings s

-- the kind of the spelling with that number, where the first has the number i; what is past the last has none, and counts as rc
abbrev pub kind_at : ℕ → ℕ → List (String × PreKind) → PreKind
kind_at which i [] = Rc
kind_at which i (p ∷ ps) = cond (eqb which i) p.1 (kind_at which (suc i) ps)

unfoldable pub pre_kind_of : ℕ → PreKind
pre_kind_of which = kind_at which 0 pre_spellings

-- the same for a part that has no kinds
abbrev pub tried_word : String → List ℕ → Option ℕ → Option ℕ
tried_word word s next = cond (starts_with (ascii word) s) (Some (length (ascii word))) next

unfoldable pub post_spelling : List ℕ → Option ℕ
post_spelling s = tried_word "post" s (tried_word "rev" s (tried_word "r" s None))

unfoldable pub dev_spelling : List ℕ → Option ℕ
dev_spelling s = tried_word "dev" s None

-- the spelling that a word says
abbrev pub spelling_of : Option (ℕ × ℕ) → Option ℕ
spelling_of (Some (which, n)) = Some n
spelling_of None = None

abbrev pub pre_spelling_of : Option (ℕ × ℕ) → Option (PreKind × ℕ)
pre_spelling_of (Some (which, n)) = Some ((pre_kind_of which), n)
pre_spelling_of None = None

-- how many bytes of the text a spelling takes
abbrev pub pre_length : Option (PreKind × ℕ) → ℕ
pre_length (Some (k, n)) = n
pre_length None = 0

abbrev pub spelling_length : Option ℕ → ℕ
spelling_length (Some n) = n
spelling_length None = 0

pub record PreSpelled (s : List ℕ) (spec r : Option (PreKind × ℕ)) : Type 0 where
  pub is : r ≡ spec
  pub within : pre_length r ≤ length s

pub record Spelled (s : List ℕ) (spec r : Option ℕ) : Type 0 where
  pub is : r ≡ spec
  pub within : spelling_length r ≤ length s
