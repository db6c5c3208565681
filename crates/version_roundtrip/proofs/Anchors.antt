-- Two normal texts, by computation: all parts, each in its place, and none but the release.
-- Assumes nothing.
use Rattle.std.specs.Prelude.{None, Some}
use mathlib.Core.Path.{◌≡◌, refl}
use mathlib.Core.List.{[], ◌∷◌}
use Rattle.chars.specs.Text.{ascii}
use Rattle.chars.specs.declared.spelling.PreKind.TheVariants.{Rc}
use Rattle.decimal.specs.Digits.{digits, decimal}
use Rattle.version_reading.specs.Value.{number, text, Value}
use Rattle.version_normal.specs.Normal.{epoch_text}
use Rattle.version_roundtrip.specs.Text.{value_text}

abbrev everything : Value
everything = record {
  epoch = 1;
  release = 2 ∷ 30 ∷ 0 ∷ [];
  pre = Some (Rc, 4);
  post = Some 5;
  dev = Some 6;
  label = text (ascii "ab") ∷ number 7 ∷ [];
}

pub all_parts : value_text everything ≡ ascii "1!2.30.0rc4.post5.dev6+ab.7"
unfolding value_text epoch_text decimal digits
all_parts = refl

abbrev nothing : Value
nothing = record { epoch = 0; release = 0 ∷ []; pre = None; post = None; dev = None; label = [] }

pub no_parts : value_text nothing ≡ ascii "0"
unfolding value_text epoch_text decimal digits
no_parts = refl
