-- In the case of a row the text is refused with that row's number and place, and with nothing else.
-- Assumes nothing.
use mathlib.Core.Path.{◌≡◌, sym}
use mathlib.Core.Bool.{Bool}
use mathlib.Core.List.{List}
use Prim.Native.Nat.{ℕ, ◌≤◌}
use lib.ListN.{length}
use borrow.Author.Tests.{lt-ltb, le-ltb}
use Rattle.version_parts.specs.Head.{head_refused, head_of}
use Rattle.version_reading.specs.Reading.{longest, refused_with, pattern_as}
use Rattle.version.specs.Refusals.{Fault, Row}
use Rattle.version.proofs.Releases.{lead_missing, lead_big, first_missing, first_big, next_big, next_over}
use Rattle.version.proofs.Stages.{
  star_refused,
  star_not_last,
  pre_big,
  post_big,
  dev_big,
  segment_missing,
  segment_over,
  end_left_over,
}

module _ (wildcards : Bool) (s : List ℕ) (short : length s ≤ longest) where
  by_head : {n p : ℕ} → head_refused n p ≡ head_of s → refused_with n p ≡ pattern_as wildcards s
  unfolding pattern_as
  by_head e = rw (le-ltb _ _ short, ← e)

  fault_refused : {n p : ℕ} → Fault wildcards s n p → refused_with n p ≡ pattern_as wildcards s
  fault_refused (Fault.no_leading_number e) = by_head (lead_missing s e)
  fault_refused (Fault.no_release_number at b e) = by_head (first_missing b e)
  fault_refused (Fault.leading_too_big e) = by_head (lead_big s e)
  fault_refused (Fault.first_too_big at b e) = by_head (first_big b e)
  fault_refused (Fault.release_too_big at count l e) = by_head (next_big l e)
  fault_refused (Fault.pre_too_big at d p e) = search pre_big
  fault_refused (Fault.post_too_big at d p e) = search post_big
  fault_refused (Fault.dev_too_big at d p e) = search dev_big
  fault_refused (Fault.segment_empty at count g e) = search segment_missing
  fault_refused (Fault.left_over at end l b h) = search end_left_over
  fault_refused (Fault.version_wildcard at w r star) = search star_refused
  fault_refused (Fault.not_trailing at w r star h) = search star_not_last
  fault_refused (Fault.too_many_numbers n at next l e) = by_head (next_over n next l e)
  fault_refused (Fault.too_many_segments at g some) = search segment_over

pub refused_in_its_case : (wildcards : Bool) (s : List ℕ) (n p : ℕ) → Row wildcards s n p → pattern_as wildcards s ≡ refused_with n p
unfolding pattern_as
refused_in_its_case wildcards s n p (Row.too_long h) = rw (lt-ltb _ _ h)
refused_in_its_case wildcards s n p (Row.within m q short f) = sym (fault_refused wildcards s short f)
