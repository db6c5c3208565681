-- The ways of the functions that make rows: the release's numbers in a row of zeros.
-- Assumes nothing.
use mathlib.Core.Path.{◌≡◌, sym, ◌∙◌, ap}
use mathlib.Core.List.{List, [], ◌∷◌, ◌++◌, append_assoc}
use Prim.Native.Nat.{ℕ, zero, suc, ◌+◌, ◌-◌, ◌≤◌, ◌<◌, min}
use native.Mathlib.Nat.{sub-zero}
use native.Mathlib.Numerals.{add-one}
use native.Mathlib.Omega.{arith}
use lib.ListN.{length, take, drop, get_or, set, replicate, length-replicate}
use lib.Seq.{paste, paste-suc, length-take-le, drop-append-le}
use borrow.Rule.Slice.PartMut.{put_mid}
use Rattle.version_parts.specs.declared.fields.Version.{Version}
use Rattle.version_reading.specs.declared.plain.Plain.{Plain}
use Rattle.version_reading.specs.Plain.{Filled, FilledPlain, whole_version}
use Rattle.version_reading.specs.Value.{value_of}
use Rattle.version_order.specs.declared.key.Key.{Key}
use Rattle.version_order.specs.Key.{key_of}
use Rattle.version_compare.proofs.Counts.{counted}
use Rattle.version_rows.specs.Row.{post_mark, post_number, key_numbers, sixteen, row_of, RowOf}

-- the way of `put_four`: each number in its place
pub four_put : (epoch first second third fourth e a b c d mark number : ℕ) (k : Key) → e ≡ epoch → a ≡ first → b ≡ second → c ≡ third → d ≡ fourth
    → mark ≡ post_mark k.post → number ≡ post_number k.post
    → e ∷ a ∷ b ∷ c ∷ d ∷ (replicate 12 0 ++ (k.kind ∷ k.pre ∷ mark ∷ number ∷ k.dev ∷ []))
    ≡ epoch ∷ first ∷ second ∷ third ∷ fourth ∷ (replicate 12 0 ++ key_numbers k)
four_put epoch first second third fourth e a b c d mark number k p q r s t f g = rw (p, q, r, s, t, f, g)

-- one release number more
pub release_turn : (row numbers filled : List ℕ) (i count n : ℕ) → filled ≡ paste row 1 numbers i → length row ≡ 22
    → length numbers ≡ 16 → i < count → count ≡ min n 16
    → set filled (1 + i) (get_or numbers i 0) ≡ paste row 1 numbers (i + 1)
release_turn row numbers filled i count n e h k l m =
    rw (e, add-one i) (paste-suc row 1 numbers i 0 (omega arith) (omega (arith, k)))

drop_replicate : (n m x : ℕ) → drop n (replicate m x) ≡ replicate (m - n) x
drop_replicate zero m x = rw (sub-zero m)
drop_replicate (suc n) zero x = let none : 0 - suc n ≡ 0 = omega arith in rw none
drop_replicate (suc n) (suc m) x = let same : suc m - suc n ≡ m - n = omega arith in rw same (drop_replicate n m x)

filled_row : (epoch n : ℕ) (k l : List ℕ) → length l ≡ n → n ≤ 16
    → put_mid 1 n (epoch ∷ (replicate 16 0 ++ k)) l ≡ epoch ∷ (sixteen l ++ k)
filled_row epoch n k l s h =
    let zeros : drop n (replicate 16 0 ++ k) ≡ replicate (16 - n) 0 ++ k =
    drop-append-le n (replicate 16 0) k (rw (length-replicate {A = ℕ} 16 0) h) ∙ rw (drop_replicate n 16 0) in
    rw (zeros, s) (ap (λ (t : List ℕ). epoch ∷ t) (sym (append_assoc l (replicate (16 - n) 0) k)))

-- the way of `row_of`: `part` is the numbers that count, and they were copied over as many zeros
pub row_filled : (v : Version) (k : Key) (count : ℕ) (blank part : List ℕ) → length v.release.numbers ≡ 16 → count ≡ min v.release.len 16
    → k ≡ key_of v.pre v.post v.dev → blank ≡ v.epoch ∷ (replicate 16 0 ++ key_numbers k)
    → part ≡ take count v.release.numbers → RowOf (value_of [] v) (put_mid 1 (1 + count - 1) blank part)
unfolding row_of value_of
row_filled v k count blank part s c g e f =
    let few : count ≤ 16 = omega arith in
    let long : length part ≡ count = rw f (length-take-le count v.release.numbers (omega (arith, s))) in
    let those : part ≡ take v.release.len v.release.numbers = f ∙ counted v.release.numbers v.release.len count s c in
    let size : 1 + count - 1 ≡ count = omega arith in
    record {
      is = rw (size, e, g, filled_row v.epoch count _ part long few, those);
      few = rw (← those, long) few;
    }

-- of the four numbers those that are there, continued with zeros
filled_sixteen : (count a b c d : ℕ) → Filled count a b c d →
    a ∷ b ∷ c ∷ d ∷ replicate 12 0 ≡ sixteen (take count (a ∷ b ∷ c ∷ d ∷ replicate 12 0))
filled_sixteen count a b c d (Filled.none n p q r t) = rw (n, p, q, r, t)
filled_sixteen count a b c d (Filled.one n q r t) = rw (n, q, r, t)
filled_sixteen count a b c d (Filled.two n r t) = rw (n, r, t)
filled_sixteen count a b c d (Filled.three n t) = rw (n, t)
filled_sixteen count a b c d (Filled.four n) = rw n

filled_few : (count a b c d : ℕ) → Filled count a b c d → length (take count (a ∷ b ∷ c ∷ d ∷ replicate 12 0)) ≤ 16
filled_few count a b c d (Filled.none n p q r t) = rw n (omega arith)
filled_few count a b c d (Filled.one n q r t) = rw n (omega arith)
filled_few count a b c d (Filled.two n r t) = rw n (omega arith)
filled_few count a b c d (Filled.three n t) = rw n (omega arith)
filled_few count a b c d (Filled.four n) = rw n (omega arith)

-- the way of `row_of_plain`
pub plain_filled : (v : Plain) (k : Key) (r : List ℕ) → FilledPlain v → k ≡ key_of v.pre v.post v.dev
    → r ≡ 0 ∷ v.first ∷ v.second ∷ v.third ∷ v.fourth ∷ (replicate 12 0 ++ key_numbers k) → RowOf (value_of [] (whole_version v)) r
unfolding row_of value_of
plain_filled v k r f g e =
    let there = filled_sixteen v.count v.first v.second v.third v.fourth f in
    record {
      is = e ∙ rw g (ap (λ l. 0 ∷ (l ++ key_numbers (key_of v.pre v.post v.dev))) there);
      few = filled_few v.count v.first v.second v.third v.fourth f;
    }
