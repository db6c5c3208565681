-- The ways of the functions that give a clause's ends.
-- Assumes nothing.
use Rattle.std.specs.Prelude.{None, Some}
use mathlib.Core.Path.{◌≡◌, refl, ◌∙◌, ap}
use mathlib.Core.Bool.{Bool, true, false}
use mathlib.Core.List.{[]}
use Prim.Native.Nat.{ℕ, ◌-◌, ◌≤◌, min}
use native.Mathlib.Omega.{arith}
use lib.ListN.{length, length-take}
use lib.Seq.{take-take}
use Rattle.ranges.specs.Cut.{bot, top, before}
use Rattle.version_parts.specs.declared.fields.Version.{Version}
use Rattle.version_reading.specs.Value.{Value, value_of}
use Rattle.version_prefix.specs.Next.{start_fields, next_fields}
use Rattle.version_prefix.specs.Prefix.{cut_to, shorter, prefix_end}
use Rattle.list_clauses.specs.declared.operator.Operator.{Operator}
use Rattle.list_ends.specs.declared.end.Side.TheVariants.{Before, After}
use Rattle.list_ends.specs.declared.end.End.{End}
use Rattle.list_ends.specs.Cut.{Place}
use Rattle.list_ends.specs.End.{place_at, bottom, topmost, most, EndIs}
use Rattle.list_ends.specs.Ends.{ends_before, match_end, equal_start, equal_end, first_place, second_place}
use Rattle.list_ends.proofs.Nexts.{next_value, start_says, next_says, next_count, next_few}

-- below all and above all
pub made_bottom : (room : ℕ) (r : End) → r ≡ bottom → EndIs bot room r
made_bottom room r e = rw e (record { is = refl; few = omega arith; size = refl })

pub made_topmost : (room : ℕ) (r : End) → r ≡ topmost → EndIs top room r
made_topmost room r e = rw e (record { is = refl; few = omega arith; size = refl })

-- the same place, said another way
pub elsewhere : {p : Place} {room : ℕ} {r : End} (q : Place) (other : ℕ) → EndIs p room r → p ≡ q → room ≤ other → EndIs q other r
elsewhere q other h e k = record { is = h.is ∙ e; few = omega (arith, h.few); size = h.size }

-- what `match_end` gives
module _ (v : Version) (count : ℕ) (r : End) (size : length v.release.numbers ≡ 16) (h : count ≤ v.release.len) where
  says : next_value (next_fields v.epoch v.release (min count 16)) ≡ prefix_end (cut_to count (value_of [] v))
  says = next_says v count size h

  pub has_next : (q : Version) → Some q ≡ next_fields v.epoch v.release (min count 16) → EndIs (place_at Before q) (most q) r →
      EndIs (match_end (cut_to count (value_of [] v))) (most v) r
  has_next q e g =
      let known : next_count (next_fields v.epoch v.release (min count 16)) ≤ 16 = next_few v.epoch v.release (min count 16) (omega arith) in
      let few : q.release.len ≤ 16 = rw (← e) at known in
      elsewhere _ _ g (ap ends_before (rw (← e) at says)) (omega arith)

  pub has_no_next : None ≡ next_fields v.epoch v.release (min count 16) → r ≡ topmost → EndIs (match_end (cut_to count (value_of [] v))) (most v) r
  has_no_next e g = elsewhere _ _ (made_topmost (most v) r g) (ap ends_before (rw (← e) at says)) (omega arith)

-- `==V` and `!=V`, without a wildcard and with one
module _ (wildcard : Bool) (v : Version) (r : End) where
  pub starts_at : wildcard ≡ false → EndIs (place_at Before v) (most v) r → EndIs (equal_start wildcard (value_of [] v)) (most v) r
  starts_at e h = rw e h

  pub starts_match : (q : Version) → wildcard ≡ true → q ≡ start_fields v → EndIs (place_at Before q) (most q) r →
      EndIs (equal_start wildcard (value_of [] v)) (most v) r
  starts_match q e f h = rw e (elsewhere _ _ h (ap before (rw f (start_says v))) (rw f (omega arith)))

  pub ends_at : wildcard ≡ false → EndIs (place_at After v) (most v) r → EndIs (equal_end wildcard (value_of [] v)) (most v) r
  ends_at e h = rw e h

  whole : cut_to v.release.len (value_of [] v) ≡ value_of [] v
  unfolding value_of
  whole = rw (take-take v.release.len v.release.len v.release.numbers (omega arith))

  pub ends_match : wildcard ≡ true → EndIs (match_end (cut_to v.release.len (value_of [] v))) (most v) r →
      EndIs (equal_end wildcard (value_of [] v)) (most v) r
  ends_match e h = rw e (elsewhere _ _ h (ap match_end whole) (omega arith))

pub ends_compatible : (v : Version) (n m : ℕ) (r : End) → length v.release.numbers ≡ 16 → n ≡ min v.release.len 16 → m ≡ n - 1 →
    EndIs (match_end (cut_to m (value_of [] v))) (most v) r → EndIs (match_end (shorter (value_of [] v))) (most v) r
unfolding value_of
ends_compatible v n m r size e f h =
    let long = size in
    let all : m ≡ length (value_of [] v).release - 1 = omega (arith, length-take v.release.len v.release.numbers) in
    rw all at h

-- the operator is found to be o
module _ (operator o : Operator) (wildcard : Bool) (v : Value) (room : ℕ) (r : End) (e : operator ≡ o) where
  pub first_by : EndIs (first_place o wildcard v) room r → EndIs (first_place operator wildcard v) room r
  first_by h = rw e h

  pub second_by : EndIs (second_place o wildcard v) room r → EndIs (second_place operator wildcard v) room r
  second_by h = rw e h
