-- Every text is accepted or has a row. Each step of the reader, by cases, either ends there or has what the next step's rows ask.
-- Assumes nothing.
use Rattle.std.specs.Prelude.{Some, Ok}
use mathlib.Core.Path.{◌≡◌, refl}
use mathlib.Core.Bool.{Bool, true}
use mathlib.Core.List.{List}
use Prim.Native.Nat.{ℕ, zero, suc, ◌+◌, ◌≤◌, ◌<◌}
use Prim.Native.Char.{code}
use native.Mathlib.Decide.{dec_lt, ℕ_discrete}
use native.Mathlib.Omega.{arith}
use lib.ListN.{length, get_or, drop}
use Rattle.chars.specs.Text.{ascii}
use Rattle.chars.specs.Class.{blank, between, front}
use Rattle.chars.specs.Case.{starts_with}
use Rattle.version_reading.specs.declared.text.Verdict.TheVariants.{Accepted}
use Rattle.version_parts.specs.Places.{separator_end, number_at, marked_number}
use Rattle.version_parts.specs.Head.{lead_end}
use Rattle.version_parts.specs.Suffix.{pre_at, post_at, dev_at}
use Rattle.version_reading.specs.Label.{word_end}
use Rattle.version_reading.specs.Reading.{longest, pattern_as}
use Rattle.version.specs.Refusals.{
  Epoch,
  Listed,
  Released,
  Plain,
  PreRead,
  PostRead,
  DevRead,
  Segmented,
  Labelled,
  Fault,
  Row,
}
use Rattle.version.proofs.TooBig.{number_refusal, marked_refusal, pre_refusal, post_refusal, dev_refusal}
use Rattle.version.proofs.Answers.{
  flag_cases,
  holds,
  fails,
  number_cases,
  no_number,
  a_number,
  big_number,
  step_cases,
  a_part,
  big_part,
}
use Rattle.version.proofs.Stages.{star_last, end_reached}

-- what comes of a text: it is accepted, or a row has it
pub data Judged (wildcards : Bool) (s : List ℕ) : Type 0 where
  accepted : (pattern_as wildcards s).verdict ≡ Accepted → Judged wildcards s
  refused : (n p : ℕ) → Row wildcards s n p → Judged wildcards s

-- the steps of a text that is not too long, the last of them first
module _ (wildcards : Bool) (s : List ℕ) (short : length s ≤ longest) where
  fault : {n p : ℕ} → Fault wildcards s n p → Judged wildcards s
  fault f = refused _ _ (Row.within _ _ short f)

  from_blanks : (at : ℕ) → Labelled s at → Judged wildcards s
  from_blanks at l =
      elim (dec_lt (at + front (between blank blank) (drop at s)) (length s)) [
        | yes left ↦ fault (Fault.left_over at _ l refl (omega arith))
        | no none ↦ accepted (end_reached wildcards s short l refl (omega arith))
      ]

  -- a segment is due at `at`: where it has a byte, `more` says what comes of it
  from_word : (at count : ℕ) → Segmented s at count → ((word_end s at ≡ at → ⊥) → Judged wildcards s) → Judged wildcards s
  from_word at count g more =
      elim (ℕ_discrete (word_end s at) at) [
        | yes none ↦ fault (Fault.segment_empty at count g none)
        | no some ↦ more some
      ]

  -- there is room for `room` segments
  from_segment : (room at count : ℕ) → count + room ≡ 16 → Segmented s at count → Judged wildcards s
  from_segment zero at count e g =
      let full : count ≡ 16 = omega arith in
      from_word at count g (λ some. fault (Fault.too_many_segments at (rw full at g) some))
  from_segment (suc room) at count e g =
      let few : count < 16 = omega arith in
      from_word at count g λ some.
      elim (ℕ_discrete (separator_end s (word_end s at)) (word_end s at)) [
        | yes last ↦ from_blanks _ (Labelled.last_segment at count g few some last)
        | no more ↦ from_segment room _ (suc count) (omega arith) (Segmented.separated at count g few some more)
      ]

  from_label : (at : ℕ) → DevRead s at → Judged wildcards s
  from_label at d =
      elim (ℕ_discrete (get_or s at 0) (code "+")) [
        | yes plus ↦ from_segment 16 _ 0 refl (Segmented.opened at d plus)
        | no none ↦ from_blanks at (Labelled.unlabelled at d none)
      ]

  from_dev : (at : ℕ) → PostRead s at → Judged wildcards s
  from_dev at p =
      elim (step_cases (dev_at s at) (dev_refusal s at)) [
        | a_part dev next e ↦ from_label next (record { from = at; before = p; dev = dev; read = e })
        | big_part d e ↦ fault (Fault.dev_too_big at d p e)
      ]

  from_post : (at : ℕ) → PreRead s at → Judged wildcards s
  from_post at p =
      elim (step_cases (post_at s at) (post_refusal s at)) [
        | a_part post next e ↦ from_dev next (record { from = at; before = p; post = post; read = e })
        | big_part d e ↦ fault (Fault.post_too_big at d p e)
      ]

  from_pre : (at : ℕ) → Plain s at → Judged wildcards s
  from_pre at p =
      elim (step_cases (pre_at s at) (pre_refusal s at)) [
        | a_part pre next e ↦ from_post next (record { from = at; plain = p; pre = pre; read = e })
        | big_part d e ↦ fault (Fault.pre_too_big at d p e)
      ]

  from_star : (at : ℕ) → Released s at → starts_with (ascii ".*") (drop at s) ≡ true → Judged wildcards s
  from_star at r star =
      elim (flag_cases wildcards) [
        | holds w ↦
            elim (dec_lt (at + 2) (length s)) [
              | yes more ↦ fault (Fault.not_trailing at w r star more)
              | no none ↦ accepted (star_last wildcards s short r star w (omega arith))
            ]
        | fails w ↦ fault (Fault.version_wildcard at w r star)
      ]

  from_release : (at : ℕ) → Released s at → Judged wildcards s
  from_release at r =
      elim (flag_cases (starts_with (ascii ".*") (drop at s))) [
        | holds star ↦ from_star at r star
        | fails none ↦ from_pre at (record { released = r; no_star = none })
      ]

  -- a number may stand after a dot at `at`: where it does, `more` says what comes of it
  from_dot : (at count : ℕ) → Listed s at count → ((n next : ℕ) → marked_number (code ".") s at ≡ Ok (Some (n, next)) → Judged wildcards s) →
      Judged wildcards s
  from_dot at count l more =
      elim (number_cases (at + 1) (marked_number (code ".") s at) (marked_refusal s at (code "."))) [
        | no_number e ↦ from_release at (record { count = count; listed = l; last = e })
        | a_number n next e ↦ more n next e
        | big_number e ↦ fault (Fault.release_too_big at count l e)
      ]

  -- there is room for `room` numbers
  from_number : (room at count : ℕ) → count + room ≡ 16 → Listed s at count → Judged wildcards s
  from_number zero at count e l =
      let full : count ≡ 16 = omega arith in
      from_dot at count l (λ n next f. fault (Fault.too_many_numbers n at next (rw full at l) f))
  from_number (suc room) at count e l =
      let few : count < 16 = omega arith in
      from_dot at count l (λ n next f. from_number room next (suc count) (omega arith) (Listed.another n at next count l few f))

  from_epoch : (at : ℕ) → Epoch s at → Judged wildcards s
  from_epoch at b =
      elim (number_cases at (number_at s at) (number_refusal s at)) [
        | no_number e ↦ fault (Fault.no_release_number at b e)
        | a_number n next e ↦ from_number 15 next 1 refl (Listed.behind_epoch n at next b e)
        | big_number e ↦ fault (Fault.first_too_big at b e)
      ]

  from_first : (n next : ℕ) → number_at s (lead_end s) ≡ Ok (Some (n, next)) → Judged wildcards s
  from_first n next e =
      elim (ℕ_discrete (get_or s next 0) (code "!")) [
        | yes mark ↦ from_epoch _ (record { epoch = n; mark = next; number = e; marked = mark; behind = refl })
        | no none ↦ from_number 15 next 1 refl (Listed.plain n next e none)
      ]

  from_start : Judged wildcards s
  from_start =
      elim (number_cases (lead_end s) (number_at s (lead_end s)) (number_refusal s (lead_end s))) [
        | no_number e ↦ fault (Fault.no_leading_number e)
        | a_number n next e ↦ from_first n next e
        | big_number e ↦ fault (Fault.leading_too_big e)
      ]

pub some_row : (wildcards : Bool) (s : List ℕ) → Judged wildcards s
some_row wildcards s =
    elim (dec_lt longest (length s)) [
      | yes long ↦ refused 8 longest (Row.too_long long)
      | no short ↦ from_start wildcards s (omega arith)
    ]
