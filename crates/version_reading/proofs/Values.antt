-- What the fields of a version are to its value: the release by its numbers that count, and the label.
-- Assumes nothing.
use mathlib.Core.Path.{◌≡◌, refl, sym, ap, ◌∙◌}
use mathlib.Core.List.{List, []}
use Prim.Native.Nat.{ℕ, zero, suc, ◌≤◌, min}
use native.Mathlib.Omega.{arith}
use lib.ListN.{length, length-take}
use Rattle.version_parts.specs.declared.fields.Version.{Version}
use Rattle.version_reading.specs.Value.{without_label, listed, value_of}

-- as many numbers as the release says
pub release_count : (s : List ℕ) (v : Version) → v.release.len ≤ 16 → length v.release.numbers ≡ 16 → length (value_of s v).release ≡ v.release.len
unfolding value_of
release_count s v few size = omega (arith, length-take v.release.len v.release.numbers)

-- without a segment the text of the label is nothing to the value
pub same_value : (s t : List ℕ) (v : Version) → v.local.len ≡ 0 → value_of s v ≡ value_of t v
unfolding value_of listed
same_value s t v e = rw e

pub no_label_lem : (s : List ℕ) (v : Version) → v.local.len ≡ 0 → (value_of s v).label ≡ []
unfolding value_of listed
no_label_lem s v e = rw e

-- and where the value has no label there is no segment
listed_length : {A : Type 0} (f : ℕ → A) (i count : ℕ) → length (listed f i count) ≡ count
unfolding listed
listed_length f i zero = refl
listed_length f i (suc count) = ap suc (listed_length f (suc i) count)

pub no_segment : (s : List ℕ) (v : Version) → (value_of s v).label ≡ [] → v.local.len ≡ 0
unfolding value_of
no_segment s v e =
    let size : min v.local.len 16 ≡ 0 = sym (listed_length _ 0 (min v.local.len 16)) ∙ ap length e in
    omega arith

-- without the label the text is nothing to any value
pub label_anywhere : (s t : List ℕ) (v : Version) → without_label (value_of s v) ≡ without_label (value_of t v)
unfolding value_of
label_anywhere s t v = refl
