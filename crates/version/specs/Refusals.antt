-- The table of refusals, row by row: when each number of 1 to 10 is due, and where.
use Rattle.std.specs.Prelude.{◌≡◌, Bool, true, false, List, ℕ, suc, ◌+◌, ◌≤◌, ◌<◌, length, get_or, drop, Option, None, Ok, Some, Err}
use Prim.Native.Char.{code}
use Rattle.answers.specs.Refusal.{refusal}
use Rattle.chars.specs.declared.spelling.PreKind.{PreKind}
use Rattle.chars.specs.Text.{ascii}
use Rattle.chars.specs.Class.{blank, between, front}
use Rattle.chars.specs.Case.{starts_with}
use Rattle.version_parts.specs.Places.{separator_end, number_at, marked_number}
use Rattle.version_parts.specs.Head.{lead_end}
use Rattle.version_parts.specs.Suffix.{pre_at, post_at, dev_at}
use Rattle.version_reading.specs.Label.{word_end}
use Rattle.version_reading.specs.Reading.{longest}

-- a number and its `!` stand in front, and the release is due at `at`
pub record Epoch (s : List ℕ) (at : ℕ) : Type 0 where
  pub epoch : ℕ
  pub mark : ℕ
  pub number : number_at s (lead_end s) ≡ Ok (Some (epoch, mark))
  pub marked : get_or s mark 0 ≡ code "!"
  pub behind : at ≡ mark + 1

-- `count` release numbers were read, the last of them up to `at`
pub data Listed (s : List ℕ) : ℕ → ℕ → Type 0 where
  plain : (n at : ℕ) → number_at s (lead_end s) ≡ Ok (Some (n, at)) → (get_or s at 0 ≡ code "!" → ⊥) → Listed s at 1
  behind_epoch : (n from at : ℕ) → Epoch s from → number_at s from ≡ Ok (Some (n, at)) → Listed s at 1
  another : (n from at count : ℕ) → Listed s from count → count < 16 → marked_number (code ".") s from ≡ Ok (Some (n, at)) → Listed s at (suc count)

-- the release ends at `at`: no further number stands after a dot
pub record Released (s : List ℕ) (at : ℕ) : Type 0 where
  pub count : ℕ
  pub listed : Listed s at count
  pub last : marked_number (code ".") s at ≡ Ok None

-- the release ends at `at`, and no `.*` follows
pub record Plain (s : List ℕ) (at : ℕ) : Type 0 where
  pub released : Released s at
  pub no_star : starts_with (ascii ".*") (drop at s) ≡ false

-- the pre-release was read up to `at`; the post-release; the development release
pub record PreRead (s : List ℕ) (at : ℕ) : Type 0 where
  pub from : ℕ
  pub plain : Plain s from
  pub pre : Option (PreKind × ℕ)
  pub read : pre_at s from ≡ Ok (pre, at)

pub record PostRead (s : List ℕ) (at : ℕ) : Type 0 where
  pub from : ℕ
  pub before : PreRead s from
  pub post : Option ℕ
  pub read : post_at s from ≡ Ok (post, at)

pub record DevRead (s : List ℕ) (at : ℕ) : Type 0 where
  pub from : ℕ
  pub before : PostRead s from
  pub dev : Option ℕ
  pub read : dev_at s from ≡ Ok (dev, at)

-- `count` segments of a label were read, and the next is due at `at`
pub data Segmented (s : List ℕ) : ℕ → ℕ → Type 0 where
  opened : (at : ℕ) → DevRead s at → get_or s at 0 ≡ code "+" → Segmented s (at + 1) 0
  separated : (at count : ℕ) → Segmented s at count → count < 16 → (word_end s at ≡ at → ⊥) →
      (separator_end s (word_end s at) ≡ word_end s at → ⊥) → Segmented s (separator_end s (word_end s at)) (suc count)

-- the label ends at `at`: there is none, or no separator follows its last segment
pub data Labelled (s : List ℕ) : ℕ → Type 0 where
  unlabelled : (at : ℕ) → DevRead s at → (get_or s at 0 ≡ code "+" → ⊥) → Labelled s at
  last_segment : (at count : ℕ) → Segmented s at count → count < 16 → (word_end s at ≡ at → ⊥) →
      separator_end s (word_end s at) ≡ word_end s at → Labelled s (word_end s at)

-- the rows of a text that is not too long, by number and place; `wildcards` says whether it is read as a pattern
pub data Fault (wildcards : Bool) (s : List ℕ) : ℕ → ℕ → Type 0 where
  -- no digit after blanks and `v`
  no_leading_number : number_at s (lead_end s) ≡ Ok None → Fault wildcards s 1 (lead_end s)
  -- no digit after `!`
  no_release_number : (at : ℕ) → Epoch s at → number_at s at ≡ Ok None → Fault wildcards s 2 at
  -- a number of 2^64 and more: the first, the one after `!`, one of the release, that of a pre-, post- or development release
  leading_too_big : number_at s (lead_end s) ≡ Err (refusal 3 (lead_end s)) → Fault wildcards s 3 (lead_end s)
  first_too_big : (at : ℕ) → Epoch s at → number_at s at ≡ Err (refusal 3 at) → Fault wildcards s 3 at
  release_too_big : (at count : ℕ) → Listed s at count → marked_number (code ".") s at ≡ Err (refusal 3 (at + 1)) → Fault wildcards s 3 (at + 1)
  pre_too_big : (at digits : ℕ) → Plain s at → pre_at s at ≡ Err (refusal 3 digits) → Fault wildcards s 3 digits
  post_too_big : (at digits : ℕ) → PreRead s at → post_at s at ≡ Err (refusal 3 digits) → Fault wildcards s 3 digits
  dev_too_big : (at digits : ℕ) → PostRead s at → dev_at s at ≡ Err (refusal 3 digits) → Fault wildcards s 3 digits
  -- a segment without a byte
  segment_empty : (at count : ℕ) → Segmented s at count → word_end s at ≡ at → Fault wildcards s 4 at
  -- bytes left over after the label and blanks
  left_over : (at end : ℕ) → Labelled s at → end ≡ at + front (between blank blank) (drop at s) → end < length s → Fault wildcards s 5 end
  -- `.*` right after a version's release
  version_wildcard : (at : ℕ) → wildcards ≡ false → Released s at → starts_with (ascii ".*") (drop at s) ≡ true → Fault wildcards s 6 at
  -- a pattern that goes on after `.*`
  not_trailing : (at : ℕ) → wildcards ≡ true → Released s at → starts_with (ascii ".*") (drop at s) ≡ true → at + 2 < length s →
      Fault wildcards s 7 (at + 2)
  -- a 17th release number, and a 17th segment
  too_many_numbers : (n at next : ℕ) → Listed s at 16 → marked_number (code ".") s at ≡ Ok (Some (n, next)) → Fault wildcards s 9 (at + 1)
  too_many_segments : (at : ℕ) → Segmented s at 16 → (word_end s at ≡ at → ⊥) → Fault wildcards s 10 at

pub data Row (wildcards : Bool) (s : List ℕ) : ℕ → ℕ → Type 0 where
  too_long : longest < length s → Row wildcards s 8 longest
  within : (number place : ℕ) → length s ≤ longest → Fault wildcards s number place → Row wildcards s number place
