-- After the end of a text stands nothing: no number, no separator, no suffix.
-- Assumes nothing.
use Rattle.std.specs.Prelude.{None, Ok}
use mathlib.Core.Path.{◌≡◌, refl}
use mathlib.Core.Bool.{Bool, true, false, cond}
use mathlib.Core.List.{List, []}
use Prim.Native.Nat.{ℕ, ◌+◌, ◌≤◌}
use native.Mathlib.Omega.{arith}
use lib.Dec.{eqb}
use lib.ListN.{length, get_or, drop, drop_of_length-le, get_or-eq_default}
use Rattle.chars.specs.Class.{class_of, front}
use Rattle.chars.specs.Case.{starts_with, beginning_of}
use Rattle.chars.specs.Spelling.{pre_spelling, post_spelling, dev_spelling}
use Rattle.decimal.specs.Parse.{leading_of}
use Rattle.version_parts.specs.Places.{NumberAt, separator_end, number_at, marked_number}
use Rattle.version_parts.specs.Suffix.{pre_at, spelled_post, post_at, dev_at, suffix_at}

pub gone : (s : List ℕ) (at : ℕ) → length s ≤ at → drop at s ≡ []
gone s at h = drop_of_length-le s h

pub zero_there : (s : List ℕ) (at : ℕ) → length s ≤ at → get_or s at 0 ≡ 0
zero_there s at h = get_or-eq_default s 0 h

pub number_ended : (s : List ℕ) (at : ℕ) → length s ≤ at → number_at s at ≡ Ok None
unfolding number_at leading_of front
number_ended s at h = rw (gone s at h)

-- whichever mark is asked for, also the byte 0
pub marked_ended : (s : List ℕ) (at mark : ℕ) → length s ≤ at → marked_number mark s at ≡ Ok None
unfolding marked_number
marked_ended s at mark h = rw (number_ended s (at + 1) (omega arith)) (go (eqb (get_or s at 0) mark) (Ok None))
  where
    go : (b : Bool) (x : NumberAt) → cond b x x ≡ x
    go true x = refl
    go false x = refl

module _ (s : List ℕ) (at : ℕ) (h : length s ≤ at) where
  no_separator : separator_end s at ≡ at
  unfolding separator_end class_of
  no_separator = rw (zero_there s at h)

  pre_ended : pre_at s at ≡ Ok (None, at)
  unfolding pre_at pre_spelling beginning_of starts_with
  pre_ended = rw (no_separator, gone s at h)

  post_ended : post_at s at ≡ Ok (None, at)
  unfolding post_at spelled_post post_spelling beginning_of starts_with
  post_ended = rw (marked_ended s at 45 h) (rw (no_separator, gone s at h))

  dev_ended : dev_at s at ≡ Ok (None, at)
  unfolding dev_at dev_spelling beginning_of starts_with
  dev_ended = rw (no_separator, gone s at h)

  pub suffix_ended : suffix_at s at ≡ Ok ((None, None, None), at)
  unfolding suffix_at
  suffix_ended = rw pre_ended (rw post_ended (rw dev_ended))
