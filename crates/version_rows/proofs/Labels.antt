-- A row does not see the label of its version, nor in which text it lies.
-- Assumes nothing.
use mathlib.Core.Path.{◌≡◌, refl}
use mathlib.Core.List.{List}
use Prim.Native.Nat.{ℕ}
use Rattle.version_parts.specs.declared.fields.Version.{Version}
use Rattle.version_reading.specs.Value.{Value, without_label, value_of}
use Rattle.version_rows.specs.Row.{row_of}

pub row_unlabelled : (v : Value) → row_of v ≡ row_of (without_label v)
unfolding row_of
row_unlabelled v = refl

pub row_blind : (s t : List ℕ) (v : Version) → row_of (value_of s v) ≡ row_of (value_of t v)
unfolding row_of value_of
row_blind s t v = refl
