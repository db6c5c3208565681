-- Ranges in an array: what is stored is read again, and one more range after the others.
-- Assumes nothing.
use mathlib.Core.Path.{◌≡◌, refl, sym, ◌∙◌, ap}
use mathlib.Core.List.{List, [], ◌∷◌, ◌++◌, map, map-append}
use Prim.Native.Nat.{ℕ, suc, ◌+◌, ◌-◌, ◌≤◌, ◌<◌, min}
use native.Mathlib.Decide.{dec_lt}
use native.Mathlib.Numerals.{add-one}
use native.Mathlib.Omega.{arith}
use lib.ListN.{length, length-append, length-map, take, set, replicate}
use lib.Seq.{take_at, take_all, set-append_seam, append_snoc}
use Rattle.ranges.specs.Range.{Range}
use Rattle.list_fold.specs.declared.numbered_ranges.NumberedRange.{NumberedRange}
use Rattle.list_fold.specs.declared.numbered_ranges.NumberedRanges.{NumberedRanges}
use Rattle.list_fold.specs.Ranges.{range, range_of, numbers_of, ranges_in, with_blanks, packed, Holds}

numbers_again : (T : List (Range ℕ)) → map range_of (map numbers_of T) ≡ T
numbers_again [] = refl
numbers_again (r ∷ T) = ap (λ (U : List (Range ℕ)). r ∷ U) (numbers_again T)

read_again : (T : List (Range ℕ)) → ranges_in (packed T) ≡ T
unfolding ranges_in packed
read_again T = rw (take_at (map numbers_of T) _ (length T) (length-map T numbers_of)) (numbers_again T)

pub holds_none : (r : NumberedRanges) → r ≡ record { list = replicate 34 (record { low = 0; high = 0 }); count = 0 } → Holds 0 [] r
unfolding packed
holds_none r e = record { is = e; few = omega (arith, ap (λ (q : NumberedRanges). q.count) e) }

pub held_count : (T : List (Range ℕ)) {r : NumberedRanges} → r ≡ packed T → r.count ≡ length T
unfolding packed
held_count T e = ap (λ (q : NumberedRanges). q.count) e

module _ {most : ℕ} {T : List (Range ℕ)} {r : NumberedRanges} (h : Holds most T r) where
  pub held : ranges_in r ≡ T
  held = rw h.is (read_again T)

  -- what r itself says
  pub settled : Holds r.count (ranges_in r) r
  settled = record { is = rw held h.is; few = omega arith }

-- the same ranges, said another way and within another bound
pub restated : {most : ℕ} {T : List (Range ℕ)} {r : NumberedRanges} (n : ℕ) (U : List (Range ℕ)) → Holds most T r → T ≡ U → r.count ≤ n → Holds n U r
restated n U h e k = record { is = rw (← e) h.is; few = k }

-- a range after the others
blanks_more : (l : List NumberedRange) (x : NumberedRange) → length l < 34 → set (with_blanks l) (length l) x ≡ with_blanks (l ++ (x ∷ []))
blanks_more l x h =
    let blank : NumberedRange = record { low = 0; high = 0 } in
    let room : 34 - length l ≡ suc (34 - suc (length l)) = omega arith in
    let more : length (l ++ (x ∷ [])) ≡ suc (length l) = length-append l (x ∷ []) ∙ add-one (length l) in
    rw (room, more, set-append_seam l blank (replicate (34 - suc (length l)) blank) x)
    (sym (append_snoc l x (replicate (34 - suc (length l)) blank)))

abbrev pushed : NumberedRanges → NumberedRange → NumberedRanges
pushed r x = record { list = set r.list r.count x; count = r.count + 1 }

pushed_packed : (T : List (Range ℕ)) (x : NumberedRange) → length T < 34 → pushed (packed T) x ≡ packed (T ++ (range_of x ∷ []))
unfolding packed
pushed_packed T x h =
    let size = length-map T numbers_of in
    let p = blanks_more (map numbers_of T) x (omega arith) in
    rw (map-append numbers_of T (range_of x ∷ []), length-append T (range_of x ∷ []), ← p, size)

-- the way out of `push`
pub pushes : (most : ℕ) (self r : NumberedRanges) (x : NumberedRange) → self.count < 34 → Holds most (ranges_in self) self
    → r ≡ pushed self x → Holds (self.count + 1) (ranges_in self ++ (range_of x ∷ [])) r
pushes most self r x h k e =
    record {
      is = e ∙ ap (λ (q : NumberedRanges). pushed q x) k.is ∙ pushed_packed (ranges_in self) x (omega (arith, held_count (ranges_in self) k.is));
      few = omega (arith, ap (λ (q : NumberedRanges). q.count) e);
    }

-- the way out of `everything`
pub everything_there : (none r : NumberedRanges) → Holds 0 [] none → Holds (none.count + 1) (ranges_in none ++ (range 0 1 ∷ [])) r → Holds 1 (range 0 1 ∷ []) r
everything_there none r h k = restated 1 _ k (rw (held h)) (omega (arith, h.few, k.few))

-- the way out of `ranges`: no more than the array has
pub ranges_there : (l : List NumberedRange) (n m : ℕ) → length l ≡ 34 → m ≡ min n 34 → take m l ≡ take n l
ranges_there l n m size e =
    elim (dec_lt n 34) [
      | yes h ↦ let same : m ≡ n = omega arith in rw same
      | no h ↦ rw (take_all m l (omega arith), take_all n l (omega arith))
    ]
