-- The ways of the functions that compare whole versions.
-- Assumes nothing.
use mathlib.Core.Path.{◌≡◌}
use mathlib.Core.List.{List, []}
use Prim.Native.Nat.{ℕ}
use Rattle.order.specs.Answer.{name_of}
use Rattle.std.specs.declared.cmp.Ordering.{Ordering as Order}
use Rattle.std.specs.declared.cmp.Ordering.TheVariants.{Less, Greater}
use Rattle.std.specs.Ordering.{MatchOrdering}
use Rattle.order.proofs.Named.{then_is}
use Rattle.version_parts.specs.declared.fields.Version.{Version}
use Rattle.version_reading.specs.Value.{value_of}
use Rattle.version_order.specs.Key.{key_of}
use Rattle.version_order.specs.Versions.{compare_release, compare_key, compare_public, compare_values}
use Rattle.version_order.proofs.Orders.{label_blind}
use Rattle.version_compare.proofs.Labels.{labels}

-- two versions without labels: r is what their releases are, q what comes of it and of the keys
pub public_compared : (v w : Version) (r q : Order) {P : Type 0} → r ≡ name_of (compare_release (value_of [] v) (value_of [] w)) →
    (P → q ≡ name_of (compare_key (key_of v.pre v.post v.dev) (key_of w.pre w.post w.dev))) → MatchOrdering r (q ≡ Less) P (q ≡ Greater) →
    q ≡ name_of (compare_public (value_of [] v) (value_of [] w))
unfolding value_of compare_public
public_compared v w r q e f h =
    then_is (compare_release (value_of [] v) (value_of [] w)) (compare_key (key_of v.pre v.post v.dev) (key_of w.pre w.post w.dev)) r q e f h

-- two versions by their fields: r is what they are without labels, q what comes of it and of the labels
pub versions_compared : (s t : List ℕ) (v w : Version) (r q : Order) {P : Type 0} → r ≡ name_of (compare_public (value_of [] v) (value_of [] w)) →
    (P → q ≡ name_of (labels s v t w)) → MatchOrdering r (q ≡ Less) P (q ≡ Greater) → q ≡ name_of (compare_values (value_of s v) (value_of t w))
unfolding compare_values
versions_compared s t v w r q e f h =
    let public : r ≡ name_of (compare_public (value_of s v) (value_of t w)) = rw (label_blind s t v w) at e in
    then_is (compare_public (value_of s v) (value_of t w)) (labels s v t w) r q public f h
