-- Rule 8: the local label; refusals 4 and 10.
use Rattle.std.specs.Prelude.{◌≡◌, cond, List, ℕ, zero, suc, ◌+◌, ◌≤◌, eqb, get_or, drop, Ok, Err}
use Prim.Native.Char.{code}
use Rattle.answers.specs.Refusal.{refusal}
use Rattle.chars.specs.Class.{digit, letter, between, front}
use Rattle.version_parts.specs.declared.fields.Span.{Span}
use Rattle.version_parts.specs.declared.fields.Local.{Local}
use Rattle.version_parts.specs.Fields.{no_local, pushed_span}
use Rattle.version_parts.specs.Places.{separator_end}
use Rattle.version_parts.specs.Suffix.{Step}

abbrev pub label_refused : ℕ → ℕ → Step Local
label_refused number place = Err (refusal number place)

abbrev pub label_read : Local → ℕ → Step Local
label_read local at = Ok (local, at)

-- past letters and digits
unfoldable pub word_end : List ℕ → ℕ → ℕ
word_end s at = at + front (between digit letter) (drop at s)

abbrev pub spanning : ℕ → ℕ → Span
spanning start end = record { start = start; end = end }

-- the segment from `at` to `end` is kept, and more come if a separator follows
abbrev pub more_segments : (Local → ℕ → Step Local) → List ℕ → Local → ℕ → ℕ → Step Local
more_segments more s local at end =
    cond (eqb (separator_end s end) end)
    (label_read (pushed_span local (spanning at end)) end)
    (more (pushed_span local (spanning at end)) (separator_end s end))

-- segments from `at` on, with room for `room`
unfoldable pub segments_from : ℕ → List ℕ → Local → ℕ → Step Local
segments_from zero s local at = cond (eqb (word_end s at) at) (label_refused 4 at) (label_refused 10 at)
segments_from (suc room) s local at =
    cond (eqb (word_end s at) at)
    (label_refused 4 at)
    (more_segments (segments_from room s) s local at (word_end s at))

unfoldable pub label_at : List ℕ → ℕ → Step Local
label_at s at = cond (eqb (get_or s at 0) (code "+")) (segments_from 16 s no_local (at + 1)) (label_read no_local at)

-- the place that an answer names: where the rest begins, or the refusal's
abbrev pub label_place : Step Local → ℕ
label_place (Ok (local, at)) = at
label_place (Err e) = e.place

abbrev pub label_count : Step Local → ℕ
label_count (Ok (local, at)) = local.len
label_count (Err e) = 0

-- r is what the rule gives as `spec`, and names no place after `end`
pub record Labelled (end : ℕ) (spec r : Step Local) : Type 0 where
  pub is : r ≡ spec
  pub within : label_place r ≤ end
  pub few : label_count r ≤ 16
