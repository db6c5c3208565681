-- Rules 5 to 7: pre-release, post-release and development release.
use Rattle.std.specs.Prelude.{◌≡◌, List, ℕ, ◌+◌, ◌≤◌, max, length, drop, Option, None, Some, Result, Ok, Err}
use Prim.Native.Char.{code}
use Rattle.answers.specs.declared.Refusal.{Refusal}
use Rattle.chars.specs.declared.spelling.PreKind.{PreKind}
use Rattle.chars.specs.Spelling.{pre_spelling, post_spelling, dev_spelling}
use Rattle.version_parts.specs.Places.{NumberAt, separator_end, number_at, marked_number, on_number}

-- what was read, and the place after it
abbrev pub Step : Type 0 → Type 0
Step A = Result (A × ℕ) Refusal

-- the parts, each if it is there: the pre-release, the post-release, the development release
abbrev pub Parts : Type 0
Parts = Option (PreKind × ℕ) × Option ℕ × Option ℕ

-- the digits begin at d: their number, or 0 where there are none
abbrev pub or_zero : ℕ → NumberAt → Step ℕ
or_zero d (Ok None) = Ok (0, d)
or_zero d (Ok (Some (n, next))) = Ok (n, next)
or_zero d (Err e) = Err e

-- an optional separator, then a number or 0
unfoldable pub number_or_zero : List ℕ → ℕ → Step ℕ
number_or_zero s at = or_zero (separator_end s at) (number_at s (separator_end s at))

-- a pre-release of that kind, by its number
abbrev pub pre_of : PreKind → Step ℕ → Step (Option (PreKind × ℕ))
pre_of kind (Ok (n, next)) = Ok (Some (kind, n), next)
pre_of kind (Err e) = Err e

-- a spelling is looked for at `from`; where there is none, the reader stands at `at` again
abbrev pub pre_from : List ℕ → ℕ → ℕ → Option (PreKind × ℕ) → Step (Option (PreKind × ℕ))
pre_from s at from (Some (kind, len)) = pre_of kind (number_or_zero s (from + len))
pre_from s at from None = Ok (None, at)

-- rule 5
unfoldable pub pre_at : List ℕ → ℕ → Step (Option (PreKind × ℕ))
pre_at s at = pre_from s at (separator_end s at) (pre_spelling (drop (separator_end s at) s))

-- the same for a part that has no kinds
abbrev pub part_of : Step ℕ → Step (Option ℕ)
part_of (Ok (n, next)) = Ok (Some n, next)
part_of (Err e) = Err e

abbrev pub part_from : List ℕ → ℕ → ℕ → Option ℕ → Step (Option ℕ)
part_from s at from (Some len) = part_of (number_or_zero s (from + len))
part_from s at from None = Ok (None, at)

unfoldable pub spelled_post : List ℕ → ℕ → Step (Option ℕ)
spelled_post s at = part_from s at (separator_end s at) (post_spelling (drop (separator_end s at) s))

-- rule 6
unfoldable pub post_at : List ℕ → ℕ → Step (Option ℕ)
post_at s at =
    on_number (marked_number (code "-") s at)
    (spelled_post s at)
    (λ n next. Ok (Some n, next))
    Err

-- rule 7
unfoldable pub dev_at : List ℕ → ℕ → Step (Option ℕ)
dev_at s at = part_from s at (separator_end s at) (dev_spelling (drop (separator_end s at) s))

-- the three, one after the other
abbrev pub after_post : List ℕ → Option (PreKind × ℕ) → Option ℕ → Step (Option ℕ) → Step Parts
after_post s pre post (Ok (dev, next)) = Ok ((pre, post, dev), next)
after_post s pre post (Err e) = Err e

abbrev pub after_pre : List ℕ → Option (PreKind × ℕ) → Step (Option ℕ) → Step Parts
after_pre s pre (Ok (post, next)) = after_post s pre post (dev_at s next)
after_pre s pre (Err e) = Err e

abbrev pub suffix_from : List ℕ → Step (Option (PreKind × ℕ)) → Step Parts
suffix_from s (Ok (pre, next)) = after_pre s pre (post_at s next)
suffix_from s (Err e) = Err e

unfoldable pub suffix_at : List ℕ → ℕ → Step Parts
suffix_at s at = suffix_from s (pre_at s at)

-- the place that an answer names, within the text: after the part, or the refusal's
abbrev pub count_next : Step ℕ → ℕ
count_next (Ok (n, next)) = next
count_next (Err e) = e.place

pub record CountRead (s : List ℕ) (spec r : Step ℕ) : Type 0 where
  pub is : r ≡ spec
  pub within : count_next r ≤ length s

abbrev pub pre_next : Step (Option (PreKind × ℕ)) → ℕ
pre_next (Ok (pre, next)) = next
pre_next (Err e) = e.place

pub record PreRead (s : List ℕ) (spec r : Step (Option (PreKind × ℕ))) : Type 0 where
  pub is : r ≡ spec
  pub within : pre_next r ≤ length s

abbrev pub part_next : Step (Option ℕ) → ℕ
part_next (Ok (part, next)) = next
part_next (Err e) = e.place

pub record PartRead (s : List ℕ) (spec r : Step (Option ℕ)) : Type 0 where
  pub is : r ≡ spec
  pub within : part_next r ≤ length s

abbrev pub suffix_next : Step Parts → ℕ
suffix_next (Ok ((pre, post, dev), next)) = next
suffix_next (Err e) = e.place

-- the suffix was looked for at `at`, which may lie after the end
pub record SuffixRead (s : List ℕ) (at : ℕ) (spec r : Step Parts) : Type 0 where
  pub is : r ≡ spec
  pub within : suffix_next r ≤ max at (length s)
