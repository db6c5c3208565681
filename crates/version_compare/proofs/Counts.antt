-- The ways of `compare_release`: the part of a release's array that counts, at most 16 numbers whatever its length says.
-- Assumes nothing.
use mathlib.Core.Path.{◌≡◌, sym}
use mathlib.Core.List.{List, []}
use Prim.Native.Nat.{ℕ, ◌≤◌, min, compare}
use native.Mathlib.Omega.{arith}
use lib.ListN.{length, take}
use lib.Seq.{length-take-le}
use Rattle.std.proofs.lemmas.List.{take_min}
use Rattle.order.specs.Compare.{padded}
use Rattle.order.specs.Answer.{name_of}
use Rattle.std.specs.declared.cmp.Ordering.{Ordering as Order}
use Rattle.std.specs.declared.cmp.Ordering.TheVariants.{Less, Greater}
use Rattle.std.specs.Ordering.{MatchOrdering, nat_cmp}
use Rattle.order.proofs.Named.{number_is, then_is}
use Rattle.version_parts.specs.declared.fields.Version.{Version}
use Rattle.version_reading.specs.Value.{value_of}
use Rattle.version_order.specs.Versions.{compare_release}

-- m numbers of the array l count
module _ (l : List ℕ) (n m : ℕ) (size : length l ≡ 16) (e : m ≡ min n 16) where
  pub count_within : m ≤ length l
  count_within = omega (arith, size)

  pub count_is : m ≡ length (take m l)
  count_is = sym (length-take-le m l count_within)

  pub counted : take m l ≡ take n l
  counted = rw (e, ← size) (take_min n l)

-- q is how the epochs compare, and r what comes of it and of the parts
pub release_compared : (v w : Version) (m n : ℕ) (q r : Order) {P : Type 0} → length v.release.numbers ≡ 16 →
    length w.release.numbers ≡ 16 → m ≡ min v.release.len 16 → n ≡ min w.release.len 16 → q ≡ nat_cmp v.epoch w.epoch →
    (P → r ≡ name_of (padded compare 0 (take m v.release.numbers) (take n w.release.numbers))) →
    MatchOrdering q (r ≡ Less) P (r ≡ Greater) → r ≡ name_of (compare_release (value_of [] v) (value_of [] w))
unfolding compare_release value_of
release_compared v w m n q r s t e f g h k =
    let one = counted v.release.numbers v.release.len m s e in
    let other = counted w.release.numbers w.release.len n t f in
    then_is (compare v.epoch w.epoch) _ q r (number_is v.epoch w.epoch q g) (λ p. rw (← one, ← other) (h p)) k
