-- Normal text: equal fields are equal normal texts, it is read back as the same fields, is its own normal text, and has at most nine bytes
-- more than the text. Assumes nothing.
use mathlib.Core.Path.{◌≡◌, sym, ◌∙◌, ap}
use mathlib.Core.List.{List}
use Prim.Native.Nat.{ℕ, ◌+◌, ◌≤◌}
use native.Mathlib.Omega.{arith}
use lib.ListN.{length}
use Rattle.version_reading.specs.declared.text.Verdict.TheVariants.{Accepted}
use Rattle.version_reading.specs.Reading.{version_of}
use Rattle.version_reading.specs.Value.{value_in}
use Rattle.version_normal.specs.Normal.{normal_text}
use Rattle.version_roundtrip.specs.Text.{value_text}
use Rattle.version_roundtrip.specs.Readable.{Readable}
use Rattle.version_roundtrip.proofs.Texts.{text_of_value}
use Rattle.version_roundtrip.proofs.Back.{reads_back, text_says_value}
use Rattle.version_roundtrip.proofs.Read.{accepted_said, release_shape}

-- of every text: a refused one has no fields, and its normal text is empty
pub normal_of_value : (s : List ℕ) → normal_text s ≡ value_text (value_in s)
unfolding normal_text
normal_of_value s = text_of_value s (version_of s).version (release_shape s).0 (release_shape s).1

pub same_fields_same_text : (s t : List ℕ) → value_in s ≡ value_in t → normal_text s ≡ normal_text t
same_fields_same_text s t e = normal_of_value s ∙ ap value_text e ∙ sym (normal_of_value t)

module _ (s : List ℕ) (accepted : (version_of s).verdict ≡ Accepted) where
  pub accepted_readable : Readable (value_in s)
  accepted_readable = (accepted_said s accepted).readable

  pub normal_length : length (normal_text s) ≤ length s + 9
  normal_length = rw (normal_of_value s) (accepted_said s accepted).grows

  pub normal_longest : length (normal_text s) ≤ 1033
  normal_longest = omega (arith, normal_length, (accepted_said s accepted).short)

  -- the premise is needed: see `one_over_refused` in Extremes
  module _ (short : length (normal_text s) ≤ 1024) where
    pub normal_reads_back : ((version_of (normal_text s)).verdict ≡ Accepted) × (value_in (normal_text s) ≡ value_in s)
    normal_reads_back = rw (normal_of_value s) (reads_back (value_in s) accepted_readable (rw (normal_of_value s) at short))

    pub normal_of_normal : normal_text (normal_text s) ≡ normal_text s
    normal_of_normal = same_fields_same_text (normal_text s) s normal_reads_back.1

pub same_text_same_fields : (s t : List ℕ) → (version_of s).verdict ≡ Accepted → (version_of t).verdict ≡ Accepted →
    normal_text s ≡ normal_text t → value_in s ≡ value_in t
same_text_same_fields s t a b e =
    text_says_value (value_in s) (value_in t) (accepted_readable s a) (accepted_readable t b)
    (sym (normal_of_value s) ∙ e ∙ normal_of_value t)
