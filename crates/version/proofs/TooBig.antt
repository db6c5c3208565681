-- A number is refused by refusal 3: where its digits begin, and so is the part of the suffix that it belongs to.
-- Assumes nothing.
use Rattle.std.specs.Prelude.{Option, None, Some, Ok, Err}
use mathlib.Core.Path.{◌≡◌, refl}
use mathlib.Core.Bool.{Bool, true, false, cond}
use mathlib.Core.List.{List}
use Prim.Native.Nat.{ℕ, ◌+◌}
use Prim.Native.Char.{code}
use lib.Dec.{eqb}
use lib.ListN.{get_or, drop}
use Rattle.answers.specs.Refusal.{refusal}
use Rattle.chars.specs.declared.spelling.PreKind.{PreKind}
use Rattle.decimal.specs.Parse.{Leading, leading_of}
use Rattle.version_parts.specs.Places.{NumberAt, separator_end, placed, number_at, marked_number, on_number}
use Rattle.version_parts.specs.Suffix.{
  Step,
  or_zero,
  number_or_zero,
  pre_of,
  pre_from,
  pre_at,
  part_of,
  part_from,
  spelled_post,
  post_at,
  dev_at,
}

abbrev pub RefusedAt : ℕ → NumberAt → Type 0
RefusedAt at (Ok read) = Unit {0}
RefusedAt at (Err e) = e ≡ refusal 3 at

pub number_refusal : (s : List ℕ) (at : ℕ) → RefusedAt at (number_at s at)
unfolding number_at
number_refusal s at = go (leading_of (drop at s))
  where
    go : (x : Leading) → RefusedAt at (placed at x)
    go (Ok None) = tt
    go (Ok (Some (n, len))) = tt
    go (Err e) = refl

pub marked_refusal : (s : List ℕ) (at mark : ℕ) → RefusedAt (at + 1) (marked_number mark s at)
unfolding marked_number
marked_refusal s at mark = go (eqb (get_or s at 0) mark)
  where
    go : (b : Bool) → RefusedAt (at + 1) (cond b (number_at s (at + 1)) (Ok None))
    go true = number_refusal s (at + 1)
    go false = tt

-- a part of the suffix
abbrev pub RefusedPart : {A : Type 0} → Step A → Type 0
RefusedPart (Ok read) = Unit {0}
RefusedPart (Err e) = e ≡ refusal 3 e.place

count_refusal : (s : List ℕ) (at : ℕ) → RefusedPart (number_or_zero s at)
unfolding number_or_zero
count_refusal s at = go (separator_end s at) (number_at s (separator_end s at)) (number_refusal s (separator_end s at))
  where
    go : (d : ℕ) (x : NumberAt) → RefusedAt d x → RefusedPart (or_zero d x)
    go d (Ok None) h = tt
    go d (Ok (Some (n, next))) h = tt
    go d (Err e) h = rw h

pre_counted : (kind : PreKind) (x : Step ℕ) → RefusedPart x → RefusedPart (pre_of kind x)
pre_counted kind (Ok (n, next)) h = tt
pre_counted kind (Err e) h = h

part_counted : (x : Step ℕ) → RefusedPart x → RefusedPart (part_of x)
part_counted (Ok (n, next)) h = tt
part_counted (Err e) h = h

module _ (s : List ℕ) (at : ℕ) where
  pre_found : (from : ℕ) (x : Option (PreKind × ℕ)) → RefusedPart (pre_from s at from x)
  pre_found from None = tt
  pre_found from (Some (kind, len)) = pre_counted kind (number_or_zero s (from + len)) (count_refusal s (from + len))

  part_found : (from : ℕ) (x : Option ℕ) → RefusedPart (part_from s at from x)
  part_found from None = tt
  part_found from (Some len) = part_counted (number_or_zero s (from + len)) (count_refusal s (from + len))

  pub pre_refusal : RefusedPart (pre_at s at)
  unfolding pre_at
  pre_refusal = pre_found _ _

  spelled_refusal : RefusedPart (spelled_post s at)
  unfolding spelled_post
  spelled_refusal = part_found _ _

  pub post_refusal : RefusedPart (post_at s at)
  unfolding post_at
  post_refusal = go (marked_number (code "-") s at) (marked_refusal s at (code "-"))
    where
      go : (x : NumberAt) → RefusedAt (at + 1) x → RefusedPart (on_number x (spelled_post s at) (λ n next. Ok (Some n, next)) Err)
      go (Ok None) h = spelled_refusal
      go (Ok (Some (n, next))) h = tt
      go (Err e) h = rw h

  pub dev_refusal : RefusedPart (dev_at s at)
  unfolding dev_at
  dev_refusal = part_found _ _
