-- Rules 1 to 3: blanks and `v`, the epoch, the release; refusals 1, 2 and 9; refusal 3 is that of a number.
use Rattle.std.specs.Prelude.{◌≡◌, cond, List, ℕ, zero, suc, ◌+◌, ◌≤◌, eqb, get_or, Result, Ok, Err}
use Rattle.answers.specs.declared.Refusal.{Refusal}
use Rattle.answers.specs.Refusal.{refusal}
use Prim.Native.Char.{code}
use Rattle.chars.specs.Class.{blank, between, front}
use Rattle.chars.specs.Case.{lower_of}
use Rattle.version_parts.specs.declared.fields.Release.{Release}
use Rattle.version_parts.specs.declared.head.Head.{Head}
use Rattle.version_parts.specs.Fields.{only_number, pushed_number}
use Rattle.version_parts.specs.Places.{number_at, marked_number, on_number}

abbrev pub head_refused : ℕ → ℕ → Result Head Refusal
head_refused number place = Err (refusal number place)

abbrev pub head_with : ℕ → Release → ℕ → Head
head_with epoch release at = record { at = at; epoch = epoch; release = release }

abbrev pub head_read : ℕ → Release → ℕ → Result Head Refusal
head_read epoch release at = Ok (head_with epoch release at)

-- rule 1: blanks, then an optional `v`
unfoldable pub lead_end : List ℕ → ℕ
lead_end s =
    let at = front (between blank blank) s in
    cond (eqb (lower_of (get_or s at 0)) (code "v")) (at + 1) at

-- rule 3: more release numbers, each after a dot, with room for `room`; a dot with no digit after it is given back
unfoldable pub release_from : ℕ → List ℕ → ℕ → Release → ℕ → Result Head Refusal
release_from zero s epoch release at =
    on_number (marked_number (code ".") s at)
    (head_read epoch release at)
    (λ n next. head_refused 9 (at + 1))
    Err
release_from (suc room) s epoch release at =
    on_number (marked_number (code ".") s at)
    (head_read epoch release at)
    (λ n next. release_from room s epoch (pushed_number release n) next)
    Err

-- rule 2: after the mark of an epoch a release number must come
unfoldable pub after_epoch : List ℕ → ℕ → ℕ → Result Head Refusal
after_epoch s epoch at =
    on_number (number_at s at)
    (head_refused 2 at)
    (λ n next. release_from 15 s epoch (only_number n) next)
    Err

-- rule 2: a number, which is the epoch if `!` follows
unfoldable pub head_at : List ℕ → ℕ → Result Head Refusal
head_at s at =
    on_number (number_at s at)
    (head_refused 1 at)
    (λ n next. cond (eqb (get_or s next 0) (code "!")) (after_epoch s n (next + 1)) (release_from 15 s 0 (only_number n) next))
    Err

unfoldable pub head_of : List ℕ → Result Head Refusal
head_of s = head_at s (lead_end s)

-- the place that an answer names: where the rest begins, or the refusal's
abbrev pub head_place : Result Head Refusal → ℕ
head_place (Ok h) = h.at
head_place (Err e) = e.place

abbrev pub head_count : Result Head Refusal → ℕ
head_count (Ok h) = h.release.len
head_count (Err e) = 0

-- r is what the rule gives as `spec`, and names no place after `end`
pub record Headed (end : ℕ) (spec r : Result Head Refusal) : Type 0 where
  pub is : r ≡ spec
  pub within : head_place r ≤ end
  pub few : head_count r ≤ 16
