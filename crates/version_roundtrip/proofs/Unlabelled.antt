-- A value without a label is written in at most 427 bytes, so that its normal text is always read back.
-- Assumes nothing.
use Rattle.chars.specs.declared.spelling.PreKind.{PreKind}
use Rattle.std.specs.Prelude.{Option, None, Some}
use mathlib.Core.Path.{◌≡◌}
use mathlib.Core.List.{List, [], ◌∷◌, map}
use Prim.Native.Nat.{ℕ, ◌+◌, ◌*◌, ◌≤◌}
use native.Mathlib.Omega.{arith}
use lib.ListN.{length, length-append}
use Rattle.order.specs.All.{All}
use Rattle.chars.specs.Text.{ascii}
use Rattle.chars.specs.declared.spelling.PreKind.TheVariants.{Alpha, Beta, Rc}
use Rattle.decimal.specs.Digits.{decimal}
use Rattle.decimal.proofs.Figures.{twenty_digits}
use Rattle.version_reading.specs.declared.text.Verdict.TheVariants.{Accepted}
use Rattle.version_reading.specs.Reading.{version_of}
use Rattle.version_reading.specs.Value.{Value, value_in}
use Rattle.version_normal.specs.Normal.{pre_text, part_text}
use Rattle.version_roundtrip.specs.Text.{dotted_all, label_text, value_text}
use Rattle.version_roundtrip.specs.Readable.{Fits, PreFits, PartFits, Readable}
use Rattle.version_roundtrip.proofs.Back.{reads_back}
use Rattle.version_roundtrip.proofs.Lengths.{parts_length, joined_length, epoch_length}

-- twenty digits and a dot for each number
dotted_short : (ns : List ℕ) → All Fits ns → length (dotted_all (map decimal ns)) ≤ 21 * length ns
dotted_short [] fits = omega arith
dotted_short (n ∷ ns) fits =
    omega (arith, twenty_digits n fits.0, dotted_short ns fits.1, length-append (decimal n) (dotted_all (map decimal ns)))

pre_short : (pre : Option (PreKind × ℕ)) → PreFits pre → length (pre_text pre) ≤ 22
pre_short None fits = omega arith
pre_short (Some (Alpha, n)) fits = omega (arith, twenty_digits n fits)
pre_short (Some (Beta, n)) fits = omega (arith, twenty_digits n fits)
pre_short (Some (Rc, n)) fits = omega (arith, twenty_digits n fits)

part_short : (name : List ℕ) (part : Option ℕ) → PartFits part → length (part_text name part) ≤ length name + 20
part_short name None fits = omega arith
part_short name (Some n) fits = omega (arith, twenty_digits n fits, length-append name (decimal n))

module _ (v : Value) (r : Readable v) (unlabelled : v.label ≡ []) where
  pub unlabelled_length : length (value_text v) ≤ 427
  unlabelled_length =
      let epoch = epoch_length v.epoch in
      let digits = twenty_digits v.epoch r.epoch in
      let release = dotted_short v.release r.release in
      let joined = joined_length v.release r.some in
      let pre = pre_short v.pre r.pre in
      let post = part_short (ascii ".post") v.post r.post in
      let dev = part_short (ascii ".dev") v.dev r.dev in
      let none : length (label_text v.label) ≡ 0 = rw unlabelled in
      omega (arith, parts_length v, r.few)

  pub unlabelled_reads_back : ((version_of (value_text v)).verdict ≡ Accepted) × (value_in (value_text v) ≡ v)
  unlabelled_reads_back = reads_back v r (omega (arith, unlabelled_length))
