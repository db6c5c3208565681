-- A table is refused with 18 at 0, or its ranges are well formed: nothing else.
-- Assumes nothing.
use Rattle.std.specs.Prelude.{Option, None, Some}
use mathlib.Core.Path.{◌≡◌, refl, sym, ◌∙◌, ap}
use mathlib.Core.Bool.{false, false≢true}
use mathlib.Core.List.{List, [], ◌∷◌}
use Prim.Native.Nat.{ℕ, zero, suc, ◌-◌, ◌≤◌}
use native.Mathlib.Omega.{arith}
use lib.Dec.{eqb, ltb}
use lib.ListN.{length}
use borrow.Author.Tests.{ltb-false}
use Rattle.order.specs.All.{All}
use Rattle.records.specs.declared.record.RecordAt.{RecordAt}
use Rattle.records.specs.declared.record.RecordAt.TheVariants.{Found, Cut, Nothing}
use Rattle.records.specs.Record.{two_at, record_at}
use Rattle.ranges.specs.Cut.{bot}
use Rattle.ranges.specs.Range.{Range}
use Rattle.ranges.specs.Table.{Beyond, Asc}
use Rattle.ranges.proofs.Cuts.{cut_bounded}
use Rattle.version_order.specs.Versions.{compare_public}
use Rattle.version_roundtrip.proofs.ReadPlaces.{by_cond}
use Rattle.list_ends.specs.Cut.{Place, le_place}
use Rattle.list_ends.specs.Writable.{Lower, Upper, Written}
use Rattle.table_reading.specs.declared.kind.Kind.{Kind}
use Rattle.table_reading.specs.declared.kind.Kind.TheVariants.{Count, End, Unknown}
use Rattle.table_reading.specs.declared.kind.Due.TheVariants.{Lower as IsLower, Upper as IsUpper}
use Rattle.table_reading.specs.Kind.{kind_of}
use Rattle.table_reading.specs.Table.{
  Ended,
  end_in,
  Tabled,
  refused,
  ranges,
  bad,
  started_by,
  on_end,
  ranges_from,
  counted_by,
  counted,
  table_of,
}
use Rattle.table_reading.specs.WellFormed.{BelowFirst, AboveLast, WellFormed}
use Rattle.table_reading.proofs.EndsRead.{EndIs, end_is}

-- n ranges after an end, or the one refusal
abbrev Sound : Option Place → ℕ → Tabled → Type 0
Sound b n (refused number place) = (number ≡ 18) × (place ≡ 0)
Sound b n (ranges T) = Asc le_place b T × (length T ≡ n) × All Written T

on_end_lem : (C : Tabled → Type 0) (Q : Place → Type 0) (b : Option Place) (o : Option Ended) (more : Ended → Tabled) → EndIs Q b o → C bad →
    ((e : Ended) → Beyond le_place b e.place → Q e.place → C (more e)) → C (on_end o more)
on_end_lem C Q b None more h i f = i
on_end_lem C Q b (Some e) more h i f = f e h.0 h.1

started : (b : Option Place) (n : ℕ) (r : Range Place) (t : Tabled) → Beyond le_place b r.lo → le_place r.hi r.lo ≡ false → Written r →
    Sound (Some r.hi) n t → Sound b (suc n) (started_by r t)
started b n r (refused number place) low high w h = h
started b n r (ranges T) low high w h = ((low, high, h.0), ap suc h.1, (w, h.2))

ranges_sound : (n : ℕ) (b : Option Place) (s : List ℕ) (start : ℕ) → Sound b n (ranges_from n b s start)
unfolding ranges_from
ranges_sound zero b s start = by_cond (Sound b 0) (eqb start (length s)) (λ e. (tt, refl, tt)) (λ e. (refl, refl))
ranges_sound (suc n) b s start =
    on_end_lem (Sound b (suc n)) Lower b (end_in IsLower b s (record_at s start)) _ (end_is IsLower b s (record_at s start)) (refl, refl)
    (λ lo above-b lower.
    on_end_lem (Sound b (suc n)) Upper (Some lo.place) (end_in IsUpper (Some lo.place) s (record_at s lo.next)) _
    (end_is IsUpper (Some lo.place) s (record_at s lo.next)) (refl, refl)
    (λ hi above-lo upper.
    started b n (record { lo = lo.place; hi = hi.place }) (ranges_from n (Some hi.place) s hi.next) above-b above-lo
    (record { lower = lower; upper = upper })
    (ranges_sound n (Some hi.place) s hi.next)))

-- none below lies above no end, and no end above none above
below_later : (x : Place) (T : List (Range Place)) → Asc le_place (Some x) T → All (λ q. q.lo ≡ bot → ⊥) T
below_later x [] h = tt
below_later x (r ∷ T) h =
    ((λ e. false≢true (sym h.0 ∙ ap (λ p. le_place p x) e ∙ (cut_bounded compare_public).least x)), below_later r.hi T h.2)

below_first : (T : List (Range Place)) → Asc le_place None T → BelowFirst T
below_first [] h = tt
below_first (r ∷ T) h = below_later r.hi T h.2

above_last : (b : Option Place) (T : List (Range Place)) → Asc le_place b T → AboveLast T
above_last b [] h = tt
above_last b (r ∷ []) h = tt
above_last b (r ∷ q ∷ T) h = (
  (λ e. false≢true (sym h.2.0 ∙ ap (le_place q.lo) e ∙ (cut_bounded compare_public).greatest q.lo)),
  above_last (Some r.hi) (q ∷ T) h.2,
)

abbrev Judged : Tabled → Type 0
Judged (refused number place) = (number ≡ 18) × (place ≡ 0)
Judged (ranges T) = WellFormed T

judge : (n : ℕ) (t : Tabled) → n ≤ 17 → Sound None n t → Judged t
judge n (refused number place) few h = h
judge n (ranges T) few h = record {
  few = omega (arith, h.1);
  ascend = h.0;
  first = below_first T h.0;
  last = above_last None T h.0;
  ends = h.2;
}

count_judged : (k : Kind) (s : List ℕ) (start next : ℕ) → Judged (counted_by k s start next)
count_judged (End end side) s start next = (refl, refl)
count_judged Unknown s start next = (refl, refl)
count_judged Count s start next =
    by_cond Judged (eqb (next - start) 2)
    (λ e.
    by_cond Judged (ltb 17 (two_at s start)) (λ f. (refl, refl))
    (λ f. judge (two_at s start) (ranges_from (two_at s start) None s next) (ltb-false _ _ f) (ranges_sound (two_at s start) None s next)))
    (λ e. (refl, refl))

record_judged : (s : List ℕ) (r : RecordAt) → Judged (counted s r)
record_judged s (Found number start next) = count_judged (kind_of number) s start next
record_judged s Cut = (refl, refl)
record_judged s Nothing = (refl, refl)

judged : (s : List ℕ) → Judged (table_of s)
unfolding table_of
judged s = record_judged s (record_at s 0)

pub well_formed : (s : List ℕ) (T : List (Range Place)) → table_of s ≡ ranges T → WellFormed T
well_formed s T e = rw e at (judged s)

pub only_18 : (s : List ℕ) (number place : ℕ) → table_of s ≡ refused number place → (number ≡ 18) × (place ≡ 0)
only_18 s number place e = rw e at (judged s)
