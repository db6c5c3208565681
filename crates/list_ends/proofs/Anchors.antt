-- Worked points of the ends that clauses give, by computation: they anchor the definitions.
-- Assumes nothing.
use Rattle.std.specs.Prelude.{None}
use mathlib.Core.Path.{◌≡◌, refl}
use mathlib.Core.Bool.{Bool, true, false}
use mathlib.Core.List.{List, [], ◌∷◌}
use Prim.Native.Nat.{ℕ}
use Rattle.ranges.specs.Cut.{top, before, after}
use Rattle.ranges.specs.Shape.{accepts}
use Rattle.version_reading.specs.Value.{Value}
use Rattle.decimal.specs.Parse.{largest}
use Rattle.version_order.specs.Versions.{compare_release, compare_key, compare_public}
use Rattle.version_prefix.specs.Prefix.{next_prefix, dev_zero}
use Rattle.list_clauses.specs.declared.operator.Operator.{Operator}
use Rattle.list_clauses.specs.declared.operator.Operator.TheVariants.{Equal, NotEqual, Compatible, AtMost, AtLeast, Below, Above}
use Rattle.list_ends.specs.Cut.{Place, le_place}
use Rattle.list_ends.specs.Ends.{first_place, second_place}
use Rattle.list_ends.specs.Shape.{shape_of}

abbrev plain : ℕ → List ℕ → Value
plain epoch release = record { epoch = epoch; release = release; pre = None; post = None; dev = None; label = [] }

abbrev starts : Operator → Bool → ℕ → List ℕ → Place
starts o wildcard epoch release = first_place o wildcard (plain epoch release)

abbrev ends : Operator → Bool → ℕ → List ℕ → Place
ends o wildcard epoch release = second_place o wildcard (plain epoch release)

-- `>=4`, `>4`, `<4`, `<=4`
pub at_least_starts_before : starts AtLeast false 0 (4 ∷ []) ≡ before (plain 0 (4 ∷ []))
at_least_starts_before = refl

pub above_starts_after : starts Above false 0 (4 ∷ []) ≡ after (plain 0 (4 ∷ []))
above_starts_after = refl

pub below_ends_before : ends Below false 0 (4 ∷ []) ≡ before (plain 0 (4 ∷ []))
below_ends_before = refl

pub at_most_ends_after : ends AtMost false 0 (4 ∷ []) ≡ after (plain 0 (4 ∷ []))
at_most_ends_after = refl

-- `==4.*` starts before 4.dev0 and ends before 5.dev0
pub match_starts : starts Equal true 0 (4 ∷ []) ≡ before (dev_zero 0 (4 ∷ []))
match_starts = refl

pub match_ends : ends Equal true 0 (4 ∷ []) ≡ before (dev_zero 0 (5 ∷ []))
unfolding next_prefix
match_ends = refl

-- the largest number is dropped: `==4.18446744073709551615.*` ends where `==4.*` does
pub largest_dropped : ends Equal true 0 (4 ∷ largest ∷ []) ≡ before (dev_zero 0 (5 ∷ []))
unfolding next_prefix
largest_dropped = refl

-- `==18446744073709551615.*` ends before 1!0.dev0, and in the largest epoch there is no end
pub next_epoch : ends Equal true 0 (largest ∷ []) ≡ before (dev_zero 1 (0 ∷ []))
unfolding next_prefix
next_epoch = refl

pub no_end : ends Equal true largest (largest ∷ []) ≡ top
unfolding next_prefix
no_end = refl

-- `~=4.2.1` ends before 4.3.dev0: it accepts 4.2.9, not 4.3 and not 4.2
pub compatible_ends : ends Compatible false 0 (4 ∷ 2 ∷ 1 ∷ []) ≡ before (dev_zero 0 (4 ∷ 3 ∷ []))
unfolding next_prefix
compatible_ends = refl

abbrev taken : Operator → Bool → List ℕ → List ℕ → Bool
taken o wildcard v w = accepts le_place (shape_of o wildcard (plain 0 v)) (before (plain 0 w))

pub compatible_with : taken Compatible false (4 ∷ 2 ∷ 1 ∷ []) (4 ∷ 2 ∷ 9 ∷ []) ≡ true
unfolding compare_public compare_release compare_key next_prefix
compatible_with = refl

pub not_compatible : taken Compatible false (4 ∷ 2 ∷ 1 ∷ []) (4 ∷ 3 ∷ []) ≡ false
unfolding compare_public compare_release compare_key next_prefix
not_compatible = refl

pub not_below : taken Compatible false (4 ∷ 2 ∷ 1 ∷ []) (4 ∷ 2 ∷ []) ≡ false
unfolding compare_public compare_release compare_key next_prefix
not_below = refl

-- `<=4` accepts 4.0, `>4` does not; `==4.0.*` accepts 4, and `!=4.0.*` does not
pub at_most_equal : taken AtMost false (4 ∷ []) (4 ∷ 0 ∷ []) ≡ true
unfolding compare_public compare_release compare_key
at_most_equal = refl

pub above_not_equal : taken Above false (4 ∷ []) (4 ∷ 0 ∷ []) ≡ false
unfolding compare_public compare_release compare_key
above_not_equal = refl

pub match_is_padded : taken Equal true (4 ∷ 0 ∷ []) (4 ∷ []) ≡ true
unfolding compare_public compare_release compare_key next_prefix
match_is_padded = refl

pub no_match_is_padded : taken NotEqual true (4 ∷ 0 ∷ []) (4 ∷ []) ≡ false
unfolding compare_public compare_release compare_key next_prefix
no_match_is_padded = refl
