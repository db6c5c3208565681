-- What is put, part by part.
-- Assumes nothing.
use mathlib.Core.Path.{◌≡◌}
use mathlib.Core.List.{List, [], ◌∷◌, ◌++◌}
use Prim.Native.Nat.{ℕ}
use Rattle.decimal.specs.Put.{Wrote}
use Rattle.decimal.proofs.Puts.{then}
use Rattle.lines.specs.Window.{line_feed}
use Rattle.version_reading.specs.declared.text.VersionReading.{VersionReading}
use Rattle.version_reading.specs.Reading.{version_of}
use Rattle.version_normal.specs.Normal.{version_text, normal_text}
use Rattle.answer_lines.specs.Text.{normal_line}

pub three_put : (s t u : List ℕ) {a b c d : List ℕ} {i j k l : ℕ} → Wrote a i s b j → Wrote b j t c k → Wrote c k u d l → Wrote a i (s ++ t ++ u) d l
three_put s t u p q r = then (then p q) r

pub normal_put : (name version : List ℕ) {read : VersionReading} → read ≡ version_of version → {a b c d : List ℕ} {i j k l : ℕ} → Wrote a i name b j →
    Wrote b j (version_text version read.version) c k → Wrote c k (line_feed ∷ []) d l → Wrote a i (normal_line name version) d l
unfolding normal_text
normal_put name version {read} e p q s = three_put name (normal_text version) (line_feed ∷ []) p (rw e at q) s
