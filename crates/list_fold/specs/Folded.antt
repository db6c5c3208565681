-- One clause more, and the pass over a list.
use Rattle.std.specs.Prelude.{◌≡◌, List, [], ◌++◌, ℕ, ◌+◌, ◌*◌, ◌≤◌, length, Result, Ok, Err, IfOk}
use Rattle.answers.specs.declared.Refusal.{Refusal}
use Rattle.ranges.specs.Range.{Range}
use Rattle.ranges.specs.Compile.{narrow, keep, step}
use Rattle.list_clauses.specs.declared.clause.Clause.{Clause}
use Rattle.list_clauses.specs.List.{Listing, count_of, checked}
use Rattle.list_ends.specs.Ends.{first_end, second_end, hollow}
use Rattle.list_ends.specs.Shape.{shaped}
use Rattle.list_fold.specs.declared.fold.Folded.{Folded}
use Rattle.list_fold.specs.declared.numbered_ranges.NumberedRange.{NumberedRange}
use Rattle.list_fold.specs.declared.numbered_ranges.NumberedRanges.{NumberedRanges}
use Rattle.list_fold.specs.Row.{le_row, EndsPut}
use Rattle.list_fold.specs.Ranges.{range_of, ranges_in, packed, Holds}
use Rattle.list_fold.specs.Numbered.{numbered_by, numbered}

-- after the parts stands what lies between two ends of the old range, unless that is empty
pub record PartKept (rows : List ℕ) (parts : NumberedRanges) (low high : ℕ) (old : NumberedRange) (r : NumberedRanges) : Type 0 where
  pub holds : Holds (parts.count + 1) (ranges_in parts ++ keep (le_row rows) (narrow (le_row rows) low high (range_of old)) []) r

-- the clause that has i before it was folded into the ranges, by the rows of all ends so far
pub record ClauseFolded (i : ℕ) (c : Clause) (ranges : NumberedRanges) (old new : List ℕ) (r : NumberedRanges) : Type 0 where
  pub put : EndsPut (2 * i + 2) (first_end c) (second_end c) old new
  pub is : r ≡ packed (step (le_row new) 0 1 (shaped (hollow c.operator) (2 * i + 2) (2 * i + 2 + 1)) (ranges_in ranges))
  pub size : length new ≡ length old
  pub room : 48 * i + 96 ≤ length old

-- how many clauses there are, and the ranges beside it; a refused list has neither
abbrev pub with_ranges : List (Range ℕ) → Result ℕ Refusal → Result Folded Refusal
with_ranges T (Err x) = Err x
with_ranges T (Ok n) = Ok (record { count = n; ranges = packed T })

abbrev pub packed_by : List ℕ → Listing → Result Folded Refusal
packed_by s l = with_ranges (numbered_by s l) (count_of l)

-- what the clauses of s say
pub record FoldedBy (s : List ℕ) (l : Listing) (r : Result Folded Refusal) : Type 0 where
  pub is : r ≡ packed_by s l
  pub few : IfOk r (λ folded. folded.ranges.count ≤ 17)

-- what s says: as many clauses as are counted, or the same refusal, and the list's ranges by number
pub record FoldedAs (s : List ℕ) (r : Result Folded Refusal) : Type 0 where
  pub is : r ≡ with_ranges (numbered s) (checked s)
  pub few : IfOk r (λ folded. folded.ranges.count ≤ 17)
