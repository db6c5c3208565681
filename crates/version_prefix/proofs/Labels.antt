-- A match does not see labels, nor in which text they lie.
-- Assumes nothing.
use mathlib.Core.Path.{◌≡◌, refl}
use mathlib.Core.List.{List}
use Prim.Native.Nat.{ℕ}
use Rattle.version_parts.specs.declared.fields.Version.{Version}
use Rattle.version_reading.specs.Value.{Value, without_label, value_of}
use Rattle.version_prefix.specs.Prefix.{prefix_matches}

pub match_unlabelled : (v w : Value) → prefix_matches v w ≡ prefix_matches (without_label v) (without_label w)
unfolding prefix_matches
match_unlabelled v w = refl

pub match_blind : (s t : List ℕ) (v : Value) (w : Version) → prefix_matches v (value_of s w) ≡ prefix_matches v (value_of t w)
unfolding prefix_matches value_of
match_blind s t v w = refl
