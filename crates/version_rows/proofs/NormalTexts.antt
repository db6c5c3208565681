-- The ways of `is_normal`, `read_normal` and `normal_row`.
-- Assumes nothing.
use Rattle.std.specs.Prelude.{Result, Ok, Err, None, Some}
use mathlib.Core.Path.{◌≡◌, ◌∙◌}
use mathlib.Core.Bool.{Bool, true, false, cond}
use mathlib.Core.List.{List, [], ◌++◌}
use Prim.Native.Nat.{ℕ, ◌≤◌}
use native.Mathlib.Omega.{arith}
use lib.Dec.{ltb}
use lib.ListN.{length, take, drop}
use lib.Seq.{take-append_seam}
use borrow.Author.Tests.{eq-eqb, ne_eqb, le-ltb}
use Rattle.answers.specs.declared.Refusal.{Refusal}
use Rattle.answers.specs.Printed.{answer, filled, Printed}
use Rattle.version_parts.specs.declared.fields.Version.{Version}
use Rattle.version_reading.specs.declared.plain.Plain.{Plain}
use Rattle.version_reading.specs.declared.text.PatternReading.{PatternReading}
use Rattle.version_reading.specs.declared.text.Verdict.TheVariants.{Accepted, Refused}
use Rattle.version_reading.specs.Plain.{whole_version}
use Rattle.version_reading.specs.Reading.{pattern_as, version_of}
use Rattle.version_reading.specs.Value.{value_of, value_in}
use Rattle.version_normal.specs.Normal.{version_text, normal_text}
use Rattle.version_roundtrip.proofs.Roundtrip.{normal_of_value, accepted_readable}
use Rattle.version_roundtrip.proofs.Unlabelled.{unlabelled_length}
use Rattle.version_reading.proofs.Values.{same_value, no_label_lem}
use Rattle.chars.specs.Same.{same_bytes}
use Rattle.version_rows.specs.Row.{RowOf}
use Rattle.version_rows.specs.Normal.{normal_value, NormalRead, NormalRow}
use Rattle.version_rows.specs.NormalPlain.{NormalPlain}

-- an accepted text without a label: its normal text has at most 427 bytes
module _ (text : List ℕ) (v : Version) (e : v ≡ (version_of text).version) (accepted : (version_of text).verdict ≡ Accepted) (f : v.local.len ≡ 0) where
  normal_short : length (normal_text text) ≤ 427
  normal_short =
      rw (normal_of_value text)
      (unlabelled_length (value_in text) (accepted_readable text accepted) (no_label_lem text (version_of text).version (rw e at f)))

  module _ (old new : List ℕ) (size : length old ≡ 512) (r : Result ℕ Refusal) (p : Printed (version_text text v) old new r) where
    answers : r ≡ Ok (length (normal_text text))
    unfolding normal_text answer
    answers = p.answers ∙ rw (e, le-ltb (length old) (length (version_text text (version_of text).version)) (omega (arith, normal_short)))

    -- so that there is room for it, and no refusal 11
    pub normal_fits : (x : Refusal) → r ≡ Err x → false ≡ same_bytes (normal_text text) text
    normal_fits x g = let said = answers in cc

    pub normal_within : (n : ℕ) (l : List ℕ) → r ≡ Ok n → length l ≡ 512 → n ≤ length l
    normal_within n l g h =
        let said = answers in
        let all : n ≡ length (normal_text text) = cc in
        omega (arith, normal_short)

    pub normal_same : (n : ℕ) (q : Bool) → r ≡ Ok n → q ≡ same_bytes (take n new) text → q ≡ same_bytes (normal_text text) text
    unfolding normal_text filled
    normal_same n q g h =
        let said = answers in
        let all : n ≡ length (normal_text text) = cc in
        let room : ltb (length old) (length (version_text text v)) ≡ false =
        le-ltb (length old) (length (version_text text v)) (rw e (omega (arith, normal_short))) in
        let left : new ≡ version_text text v ++ drop (length (version_text text v)) old = p.leaves ∙ rw room in
        h ∙ rw (left, all, ← e, take-append_seam (version_text text v) (drop (length (version_text text v)) old))

-- what was read of the text
module _ (text : List ℕ) (read : PatternReading) (d : read ≡ pattern_as false text) where
  pub read_fields : read.version ≡ (version_of text).version
  unfolding version_of
  read_fields = rw d

  pub read_accepted : read.verdict ≡ Accepted → (version_of text).verdict ≡ Accepted
  unfolding version_of
  read_accepted e = rw (← d) e

  -- where there is no such version
  not_normal : None ≡ normal_value text → NormalRead text (Err read.version)
  not_normal e = record { fields = read_fields; said = e }

  refused_none : (x : Refusal) → read.verdict ≡ Refused x → None ≡ normal_value text
  unfolding normal_value version_of
  refused_none x e = rw (← d, e)

  pub read_refused : (x : Refusal) → read.verdict ≡ Refused x → NormalRead text (Err read.version)
  read_refused x e = not_normal (refused_none x e)

  module _ (e : read.verdict ≡ Accepted) where
    labelled_none : (read.version.local.len ≡ 0 → ⊥) → None ≡ normal_value text
    unfolding normal_value version_of
    labelled_none f = rw (← d, e, ← d, ne_eqb _ _ f)

    pub read_labelled : (read.version.local.len ≡ 0 → ⊥) → NormalRead text (Err read.version)
    read_labelled f = not_normal (labelled_none f)

    -- where there may be one, by whether the text is what is printed of it
    module _ (f : read.version.local.len ≡ 0) (same : Bool) (g : same ≡ same_bytes (normal_text text) text) where
      unlabelled_said : cond same (Some (value_of [] read.version)) None ≡ normal_value text
      unfolding normal_value version_of
      unlabelled_said = rw (← d, e, ← d, eq-eqb _ _ f, g, same_value [] text read.version f)

      pub read_normally : same ≡ true → NormalRead text (Ok read.version)
      read_normally h = record { fields = read_fields; said = rw h at unlabelled_said }

      pub read_otherwise : same ≡ false → NormalRead text (Err read.version)
      read_otherwise h = not_normal (rw h at unlabelled_said)

-- the ways of `normal_row`
module _ (text old new : List ℕ) where
  pub plain_normal : (v : Plain) → NormalPlain text v → RowOf (value_of [] (whole_version v)) new → NormalRow text old new true
  plain_normal v p row = record { is = rw p.said; leaves = rw p.said row.is }

  pub none_normal : (v : Version) → NormalRead text (Err v) → NormalRow text old old false
  none_normal v p = record { is = rw (← p.said); leaves = rw (← p.said) }

  pub row_normal : (v : Version) → NormalRead text (Ok v) → RowOf (value_of [] v) new → NormalRow text old new true
  row_normal v p row = record { is = rw (← p.said); leaves = rw (← p.said) row.is }
