-- What is known of normal texts: those that were written, and those that are found.
-- Assumes nothing.
use Rattle.std.specs.Prelude.{Option, None, Some}
use mathlib.Core.Path.{◌≡◌, refl, ◌∙◌, ap, subst}
use mathlib.Core.List.{List}
use Prim.Native.Nat.{ℕ, ◌≤◌}
use lib.Dec.{eqb}
use lib.ListN.{length}
use borrow.Author.Tests.{eqb-true}
use Rattle.chars.specs.Same.{same_bytes}
use Rattle.chars.proofs.SameBytes.{same_self}
use Rattle.version_reading.specs.declared.text.Verdict.{Verdict}
use Rattle.version_reading.specs.declared.text.Verdict.TheVariants.{Accepted, Refused}
use Rattle.version_reading.specs.Reading.{version_of}
use Rattle.version_reading.specs.Value.{Value, value_in}
use Rattle.version_reading.proofs.Values.{no_label_lem, no_segment}
use Rattle.version_normal.specs.Normal.{normal_text}
use Rattle.version_roundtrip.specs.Text.{value_text}
use Rattle.version_roundtrip.specs.Readable.{Writable}
use Rattle.version_roundtrip.proofs.ReadPlaces.{by_cond}
use Rattle.version_roundtrip.proofs.Roundtrip.{normal_of_value, accepted_readable}
use Rattle.version_roundtrip.proofs.Unlabelled.{unlabelled_reads_back}
use Rattle.version_rows.specs.Normal.{in_normal_text, normal_value}

pub normal_here : (v : Value) → Writable v → normal_value (value_text v) ≡ Some v
unfolding normal_value
normal_here v w =
    let back = unlabelled_reads_back v w.readable w.unlabelled in
    let text : normal_text (value_text v) ≡ value_text v = normal_of_value (value_text v) ∙ ap value_text back.1 in
    let bare : (version_of (value_text v)).version.local.len ≡ 0 =
    no_segment (value_text v) (version_of (value_text v)).version (ap (λ x. x.label) back.1 ∙ w.unlabelled) in
    rw (back.0, bare, text, same_self (value_text v), back.1)

no_value : (v : Value) → None ≡ Some v → ⊥
no_value v e = cc

same_value : (v w : Value) → Some v ≡ Some w → v ≡ w
same_value v w e = cc

-- and what is found is the value of such a text
module _ (text : List ℕ) (v : Value) where
  abbrev Right : Option Value → Type 0
  Right o = o ≡ Some v → Writable v

  nothing : Right None
  nothing e = absurd (no_value v e)

  pub normal_writable : normal_value text ≡ Some v → Writable v
  unfolding normal_value
  normal_writable = go (version_of text).verdict refl
    where
      go : (x : Verdict) → (version_of text).verdict ≡ x → Right (in_normal_text x text)
      go (Refused x) e = nothing
      go Accepted e =
          by_cond Right (eqb (version_of text).version.local.len 0)
          (λ f. by_cond Right (same_bytes (normal_text text) text)
          (λ g same. subst Writable (same_value (value_in text) v same) (record {
            readable = accepted_readable text e;
            unlabelled = no_label_lem text (version_of text).version (eqb-true _ _ f);
          }))
          (λ g. nothing))
          (λ f. nothing)

  -- there is room for its release in a row
  pub normal_few : normal_value text ≡ Some v → length v.release ≤ 16
  normal_few e = (normal_writable e).readable.few
