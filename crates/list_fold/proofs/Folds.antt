-- The pass over the clauses of a list: so far the first ones are folded.
-- Assumes nothing.
use Rattle.answers.specs.declared.Refusal.{Refusal}
use Rattle.answers.specs.Refusal.{refusal}
use Rattle.std.specs.Prelude.{Result, Ok, Err}
use mathlib.Core.Path.{◌≡◌, refl, sym, ◌∙◌, ap}
use mathlib.Core.Bool.{true, false}
use mathlib.Core.List.{List, [], ◌∷◌}
use Prim.Native.Nat.{ℕ, suc, ◌+◌, ◌*◌, ◌≤◌, ◌<◌}
use native.Mathlib.Numerals.{add-one}
use native.Mathlib.Omega.{arith}
use lib.ListN.{length, drop}
use Rattle.chars.specs.Class.{blank, between, front}
use Rattle.list_clauses.specs.declared.clause.Clause.{Clause}
use Rattle.list_clauses.specs.declared.step.Step.{Step}
use Rattle.list_clauses.specs.Commas.{commas_in}
use Rattle.list_clauses.specs.Step.{clause_in, step_at, start_at, first_clauses}
use Rattle.list_clauses.specs.List.{clauses_from, checked}
use Rattle.list_clauses.proofs.Walks.{Walked, walk_full, walk_refused, walk_last, count_more}
use Rattle.list_clauses.proofs.CommasCounted.{comma_passed}
use Rattle.list_clauses.proofs.Lists.{listed_long, listed_blank, listed_some}
use Rattle.list_ends.specs.declared.end.End.{End}
use Rattle.list_ends.specs.End.{place_of, bottom, topmost}
use Rattle.list_ends.specs.Ends.{first_end, second_end}
use Rattle.list_ends.specs.Number.{place_number}
use Rattle.list_fold.specs.declared.fold.Folded.{Folded}
use Rattle.list_fold.specs.declared.numbered_ranges.NumberedRanges.{NumberedRanges}
use Rattle.list_fold.specs.Row.{rows_to, Rows, EndsPut}
use Rattle.list_fold.specs.Ranges.{range, packed, Holds}
use Rattle.list_fold.specs.Numbered.{folded_by, numbered}
use Rattle.list_fold.specs.Folded.{ClauseFolded, packed_by, FoldedBy, FoldedAs}
use Rattle.list_fold.proofs.Packed.{held, held_count, restated}
use Rattle.list_fold.proofs.Stored.{rows_go_on}
use Rattle.list_fold.proofs.Numbered.{first_number, second_number, folded_count, folded_more}

-- the first `count` clauses are folded, and the rows are those of their ends
pub record Folding (s : List ℕ) (count : ℕ) (rows : List ℕ) (ranges : NumberedRanges) : Type 0 where
  pub keys : Rows (place_number s) (2 * count + 2) rows
  pub parts : Holds 17 (folded_by s (first_clauses s count)) ranges

-- both parts of an answer
both : {m n : ℕ} {a b : NumberedRanges} → m ≡ n → a ≡ b
    → ◌≡◌ {A = Result Folded Refusal} (Ok (record { count = m; ranges = a })) (Ok (record { count = n; ranges = b }))
both e f = rw (e, f)

-- no clause yet: one range, from below all to above all
pub folding_none : (s old rows : List ℕ) (first second : End) (ranges : NumberedRanges) (n : ℕ) → n + 96 ≤ length old → first ≡ bottom → second ≡ topmost
    → EndsPut 0 (place_of first) (place_of second) old rows → Holds 1 (range 0 1 ∷ []) ranges → Folding s 0 rows ranges
unfolding first_clauses place_number rows_to
folding_none s old rows first second ranges n room e f put h =
    let before : Rows (place_number s) 0 old = record { are = refl; short = λ n k. absurd (omega arith) } in
    record {
      keys = rows_go_on (place_number s) 0 _ _ old rows before (omega arith) put (rw e) (rw f);
      parts = restated 17 _ h refl (omega (arith, h.few));
    }

module _ (s : List ℕ) (count start : ℕ) (W : Walked s count start) where
  -- the ways of the pass that refuse
  pub pass_full : 16 ≤ count → FoldedBy s (clauses_from 16 s 0) (Err (refusal 17 start))
  pass_full f = record { is = ap (packed_by s) (walk_full s count start W f); few = tt }

  module _ (x : Step) (e : x ≡ step_at s start) (few : count < 16) where
    pub pass_refused : (y : Refusal) → x.clause ≡ Err y → FoldedBy s (clauses_from 16 s 0) (Err y)
    pass_refused y g = record { is = ap (packed_by s) (walk_refused s count start W x e few y g); few = tt }

    -- one clause more
    module _ (c : Clause) (g : x.clause ≡ Ok c) (rows rows' : List ℕ) (ranges ranges' : NumberedRanges) (F : Folding s count rows ranges)
        (turn : ClauseFolded count c ranges rows rows' ranges') where
      here : clause_in s (start_at s count) ≡ Ok c
      unfolding step_at
      here = sym (ap (λ y. y.clause) e ∙ ap (clause_in s) W.at) ∙ g

      pub folding_more : Folding s (count + 1) rows' ranges'
      folding_more =
          let enough = turn.room in
          let one : place_number s (2 * count + 2) ≡ first_end c = first_number s count ∙ rw here in
          let other : place_number s (suc (2 * count + 2)) ≡ second_end c = second_number s count ∙ rw here in
          let keys : Rows (place_number s) (suc (suc (2 * count + 2))) rows' =
          rows_go_on (place_number s) (2 * count + 2) _ _ rows rows' F.keys (omega arith) turn.put one other in
          let more : ranges' ≡ packed (folded_by s (first_clauses s (suc count))) =
          turn.is ∙ ap packed (rw (held F.parts) (folded_more s count (suc (suc (2 * count + 2))) W.all rows' keys (omega arith) c here)) in
          let twice : 2 * (count + 1) + 2 ≡ suc (suc (2 * count + 2)) = omega arith in
          let all : length (first_clauses s (suc count)) ≡ suc count = rw add-one at (count_more s count start W x e few c g) in
          record {
            keys = rw twice keys;
            parts = record { is = rw (add-one count) more; few = omega (arith, folded_count s (suc count) all, held_count _ more) };
          }

      pub pass_last : x.part.last ≡ true → FoldedBy s (clauses_from 16 s 0) (Ok (record { count = count + 1; ranges = ranges' }))
      pass_last l =
          let all = folding_more.parts in
          let counted : count + 1 ≡ length (first_clauses s (count + 1)) = sym (count_more s count start W x e few c g) in
          record {
            is = both counted all.is ∙ ap (packed_by s) (walk_last s count start W x e few c g l);
            few = all.few;
          }

-- the clauses so far are no more than the commas
pub commas_left : (s : List ℕ) (count start : ℕ) (x : Step) → count + commas_in (drop start s) ≡ commas_in s → x ≡ step_at s start →
    x.part.last ≡ false → count + 1 + commas_in (drop x.part.next s) ≡ commas_in s
commas_left s count start x same e l = omega (arith, comma_passed s start x e l)

-- the ways of `fold`
pub fold_long : (s : List ℕ) → 1024 < length s → FoldedAs s (Err (refusal 8 1024))
unfolding numbered checked
fold_long s h = record { is = ap (packed_by s) (listed_long s h); few = tt }

module _ (s : List ℕ) (n : ℕ) (short : length s ≤ 1024) (e : n ≡ front (between blank blank) s) where
  pub fold_some : (r : Result Folded Refusal) → (n ≡ length s → ⊥) → FoldedBy s (clauses_from 16 s 0) r → FoldedAs s r
  unfolding numbered checked
  fold_some r f h = record { is = h.is ∙ ap (packed_by s) (listed_some s n short e f); few = h.few }

  pub fold_blank : (ranges : NumberedRanges) → n ≡ length s → Holds 1 (range 0 1 ∷ []) ranges
      → FoldedAs s (Ok (record { count = 0; ranges = ranges }))
  unfolding numbered checked
  fold_blank ranges f h = record { is = both refl h.is ∙ ap (packed_by s) (listed_blank s n short e f); few = omega (arith, h.few) }
