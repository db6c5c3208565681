-- What the fields of a next prefix say: the next prefix of the value.
-- Assumes nothing.
use Rattle.std.specs.Prelude.{Option, None, Some}
use mathlib.Core.Path.{◌≡◌, refl}
use mathlib.Core.Bool.{Bool, true, false, cond}
use mathlib.Core.List.{List, [], ◌∷◌, ◌++◌}
use Prim.Native.Nat.{ℕ, zero, suc, ◌≤◌, min}
use native.Mathlib.Numerals.{add-one}
use native.Mathlib.Omega.{arith}
use lib.Dec.{eqb}
use lib.ListN.{length, get_or, take}
use lib.Seq.{take-suc, take-suc-set, take-take}
use Rattle.version_parts.specs.declared.fields.Release.{Release}
use Rattle.version_parts.specs.declared.fields.Version.{Version}
use Rattle.version_parts.specs.Fields.{only_number}
use Rattle.version_reading.specs.Value.{Value, listed, value_of}
use Rattle.decimal.specs.Parse.{largest}
use Rattle.version_compare.proofs.Counts.{counted}
use Rattle.version_roundtrip.proofs.ReadPlaces.{by_cond}
use Rattle.version_prefix.specs.Next.{dev_zero_fields, start_fields, raised_at, next, no_next, next_epoch, next_fields}
use Rattle.version_prefix.specs.Prefix.{cut_to, next_release, raised, carried, next_prefix, dev_zero, zeroed, prefix_start, prefix_end}

-- the value that it says
abbrev pub next_value : Option Version → Option Value
next_value (Some v) = Some (value_of [] v)
next_value None = None

-- one number more, at the end
next_snoc : (l : List ℕ) (x : ℕ) → next_release (l ++ (x ∷ [])) ≡ cond (eqb x largest) (next_release l) (Some (l ++ (suc x ∷ [])))
next_snoc [] x = refl
next_snoc (y ∷ l) x = rw (next_snoc l x) (go (eqb x largest))
  where
    go : (b : Bool) → raised y (cond b (next_release l) (Some (l ++ (suc x ∷ [])))) ≡ cond b (next_release (y ∷ l)) (Some (y ∷ (l ++ (suc x ∷ []))))
    go true = refl
    go false = refl

-- the release r with `.dev0`
dev_zero_says : (epoch : ℕ) (r : Release) → value_of [] (dev_zero_fields epoch r) ≡ dev_zero epoch (take r.len r.numbers)
unfolding value_of listed
dev_zero_says epoch r = refl

pub start_says : (v : Version) → value_of [] (start_fields v) ≡ prefix_start (value_of [] v)
unfolding value_of listed
start_says v = refl

raised_says : (r : Release) (i : ℕ) → suc i ≤ length r.numbers →
    take (raised_at r i).len (raised_at r i).numbers ≡ take i r.numbers ++ (suc (get_or r.numbers i 0) ∷ [])
raised_says r i h = rw (add-one i) (take-suc-set r.numbers i (suc (get_or r.numbers i 0)) h)

next_of : (epoch : ℕ) (r : Release) (i : ℕ) → i ≤ length r.numbers →
    next_value (next_fields epoch r i) ≡ zeroed (carried epoch (next_release (take i r.numbers)))
unfolding next_fields next_epoch
next_of epoch r zero h = go (eqb epoch largest)
  where
    go : (b : Bool) → next_value (cond b no_next (next (dev_zero_fields (suc epoch) (only_number 0)))) ≡
        zeroed (cond b None (Some (record { epoch = suc epoch; release = 0 ∷ [] })))
    go true = refl
    go false = rw (dev_zero_says (suc epoch) (only_number 0))
next_of epoch r (suc i) h =
    rw (take-suc r.numbers i 0 h, next_snoc (take i r.numbers) (get_or r.numbers i 0))
    (go (eqb (get_or r.numbers i 0) largest) (next_of epoch r i (omega arith)))
  where
    x : ℕ
    x = get_or r.numbers i 0

    go : (b : Bool) → next_value (next_fields epoch r i) ≡ zeroed (carried epoch (next_release (take i r.numbers))) →
        next_value (cond b (next_fields epoch r i) (next (dev_zero_fields epoch (raised_at r i)))) ≡
        zeroed (carried epoch (cond b (next_release (take i r.numbers)) (Some (take i r.numbers ++ (suc x ∷ [])))))
    go true ih = ih
    go false ih = rw (dev_zero_says epoch (raised_at r i), raised_says r i h)

-- with the first `count` numbers for a prefix, as many as the version has at most
pub next_says : (v : Version) (count : ℕ) → length v.release.numbers ≡ 16 → count ≤ v.release.len →
    next_value (next_fields v.epoch v.release (min count 16)) ≡ prefix_end (cut_to count (value_of [] v))
unfolding value_of next_prefix
next_says v count size h =
    let long : length v.release.numbers ≡ 16 = size in
    rw (take-take count v.release.len v.release.numbers h, ← counted v.release.numbers count (min count 16) size refl)
    (next_of v.epoch v.release (min count 16) (omega arith))

-- it has 16 numbers at most
abbrev pub next_count : Option Version → ℕ
next_count (Some v) = v.release.len
next_count None = 0

pub next_few : (epoch : ℕ) (r : Release) (count : ℕ) → count ≤ 16 → next_count (next_fields epoch r count) ≤ 16
unfolding next_fields next_epoch
next_few epoch r zero few = by_cond (λ (n : Option Version). next_count n ≤ 16) (eqb epoch largest) (λ e. omega arith) (λ e. omega arith)
next_few epoch r (suc i) few =
    by_cond (λ (n : Option Version). next_count n ≤ 16) (eqb (get_or r.numbers i 0) largest)
    {a = next_fields epoch r i} {b = next (dev_zero_fields epoch (raised_at r i))}
    (λ e. next_few epoch r i (omega arith)) (λ e. omega arith)
