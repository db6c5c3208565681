-- The ways of `compile`: a refused list, and one whose ranges were folded.
-- Assumes nothing.
use Rattle.std.specs.Prelude.{Result, Err, Ok}
use mathlib.Core.Path.{◌≡◌, refl, sym, ◌∙◌, ap}
use mathlib.Core.List.{List, map}
use Prim.Native.Nat.{ℕ, ◌+◌, ◌*◌, ◌≤◌}
use native.Mathlib.Omega.{arith}
use lib.ListN.{length, take, length-map}
use Rattle.answers.specs.declared.Refusal.{Refusal}
use Rattle.answers.specs.Printed.{Printed}
use Rattle.ranges.specs.Map.{map_range}
use Rattle.list_clauses.specs.declared.clause.Clause.{Clause}
use Rattle.list_clauses.specs.List.{Listing, refused, clauses, list_of, count_of, checked}
use Rattle.list_ends.specs.Number.{place_number}
use Rattle.list_ends.specs.Shape.{ranges_of}
use Rattle.list_fold.specs.declared.numbered_ranges.NumberedRange.{NumberedRange}
use Rattle.list_fold.specs.declared.numbered_ranges.NumberedRanges.{NumberedRanges}
use Rattle.list_fold.specs.Ranges.{range_of, ranges_in, packed, Holds}
use Rattle.list_fold.specs.Numbered.{folded_by, numbered}
use Rattle.list_fold.specs.declared.fold.Folded.{Folded}
use Rattle.list_fold.specs.Folded.{packed_by, FoldedAs}
use Rattle.list_fold.proofs.Packed.{held}
use Rattle.list_fold.proofs.Numbers.{numbered_places}
use Rattle.table_reading.specs.Text.{table_text}
use Rattle.table_compile.specs.Said.{said_by}
use Rattle.table_compile.specs.Compiled.{answer_to, filled_to, Compiled}
use Rattle.table_compile.proofs.Sizes.{table_within}

-- a list that is refused
refused_by : (s : List ℕ) (l : Listing) (x : Refusal) (buf : List ℕ) → Err x ≡ packed_by s l → (Err x ≡ answer_to l buf) × (buf ≡ filled_to l buf)
refused_by s (refused number place) x buf e = let same : x ≡ record { number = number; place = place } = cc in (ap Err same, refl)
refused_by s (clauses cs) x buf e = let impossible : ◌≡◌ {A = ℕ} 0 1 = cc in absurd (omega arith)

pub compile_refused : (s : List ℕ) (f : Result Folded Refusal) (x : Refusal) (buf : List ℕ) → FoldedAs s f → f ≡ Err x → Compiled s buf buf (Err x)
unfolding numbered checked
compile_refused s f x buf h e = let both = refused_by s (list_of s) x buf (sym e ∙ h.is) in record { answers = both.0; leaves = both.1 }

folded_are : (s : List ℕ) (cs : List Clause) → list_of s ≡ clauses cs → map (map_range (place_number s)) (folded_by s cs) ≡ ranges_of cs
unfolding numbered
folded_are s cs e = rw e at (numbered_places s cs e)

-- a list that is not, with the text of its table
pub said_by_lem : (s : List ℕ) (l : Listing) (n : ℕ) (old new : List ℕ) (r : Result ℕ Refusal) → list_of s ≡ l → Ok n ≡ count_of l →
    Printed (table_text (map (map_range (place_number s)) (numbered s))) old new r → (r ≡ answer_to l old) × (new ≡ filled_to l old)
said_by_lem s (refused number place) n old new r g e p = let impossible : ◌≡◌ {A = ℕ} 0 1 = cc in absurd (omega arith)
said_by_lem s (clauses cs) n old new r g e p = let q = rw (numbered_places s cs g) at p in (q.answers, q.leaves)

-- and with the ranges of its clauses
record Read (s : List ℕ) (l : Listing) (folded : Folded) : Type 0 where
  all : List Clause
  are : l ≡ clauses all
  is : folded.ranges ≡ packed (folded_by s all)

read_by : (s : List ℕ) (l : Listing) (folded : Folded) → Ok folded ≡ packed_by s l → Read s l folded
read_by s (refused number place) folded e = let impossible : ◌≡◌ {A = ℕ} 0 1 = cc in absurd (omega arith)
read_by s (clauses cs) folded e =
    let same : folded ≡ record { count = length cs; ranges = packed (folded_by s cs) } = cc in
    record { all = cs; are = refl; is = ap (λ f. f.ranges) same }

module _ (s : List ℕ) (f : Result Folded Refusal) (folded : Folded) (l : List NumberedRange) (h : FoldedAs s f) (e : f ≡ Ok folded)
    (g : l ≡ take folded.ranges.count folded.ranges.list) where
  abbrev ranges : NumberedRanges
  ranges = folded.ranges

  read : Read s (list_of s) folded
  unfolding numbered checked
  read = read_by s (list_of s) folded (sym e ∙ h.is)

  -- the ranges that the numbers say are the list's
  said_are : said_by s l ≡ ranges_of read.all
  unfolding ranges_in
  said_are =
      let few : ranges.count ≤ ranges.count = omega arith in
      let holds : Holds ranges.count (folded_by s read.all) ranges = record { is = read.is; few = few } in
      ap (λ k. map (map_range (place_number s)) (map range_of k)) g ∙ ap (map (map_range (place_number s))) (held holds) ∙ folded_are s read.all read.are

  size : length l ≡ length (ranges_of read.all)
  size = sym (length-map l range_of) ∙ sym (length-map (map range_of l) (map_range (place_number s))) ∙ ap length said_are

  -- no table is longer than that
  pub table_fits : length (table_text (said_by s l)) ≤ 862 * length l + 6
  table_fits = rw said_are (omega (arith, table_within s read.all read.are, size))

  pub compile_printed : (old new : List ℕ) (r : Result ℕ Refusal) → Printed (table_text (said_by s l)) old new r → Compiled s old new r
  compile_printed old new r p =
      let q : Printed (table_text (ranges_of read.all)) old new r = rw said_are at p in
      record { answers = rw read.are q.answers; leaves = rw read.are q.leaves }

-- one answer and one buffer meet the statement
pub one_compiled : {s old new new' : List ℕ} {r q : Result ℕ Refusal} → Compiled s old new r → Compiled s old new' q → (r ≡ q) × (new ≡ new')
one_compiled p q = (p.answers ∙ sym q.answers, p.leaves ∙ sym q.leaves)
