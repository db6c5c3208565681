-- The ways of the functions that make the parts of a word.
-- Assumes nothing.
use Rattle.std.specs.Prelude.{Option, None, Some}
use mathlib.Core.Path.{◌≡◌, sym}
use mathlib.Core.List.{List}
use Prim.Native.Nat.{ℕ, ◌+◌, ◌*◌, ◌≤◌, ◌<◌}
use native.Mathlib.Omega.{arith}
use lib.ListN.{length, get_or, take, length-take, get_or-eq_default}
use lib.Seq.{get_or-take}
use borrow.Author.Tests.{le-leb, lt-leb}
use Rattle.chars.specs.declared.spelling.PreKind.{PreKind}
use Rattle.version_word.specs.Small.{alone, only_suffix}
use Rattle.version_word.specs.Fitted.{numbers_fitted, suffix_fitted}

-- the numbers l of an array, of which the first len count
module _ (l : List ℕ) (len at : ℕ) where
  pub number_behind : len ≤ at → 0 ≡ get_or (take len l) at 0
  number_behind h = sym (get_or-eq_default (take len l) 0 (omega (arith, length-take len l)))

  pub number_outside : length l ≡ 16 → 16 ≤ at → 0 ≡ get_or (take len l) at 0
  number_outside e h = sym (get_or-eq_default (take len l) 0 (omega (arith, length-take len l, e)))

  pub number_there : at < len → get_or l at 0 ≡ get_or (take len l) at 0
  number_there h = sym (get_or-take len l at 0 h)

-- four release numbers, as far as they were looked at
module _ (a b c d : ℕ) where
  pub first_large : 65535 < a → None ≡ numbers_fitted a b c d
  first_large h = rw (lt-leb a 65535 h)

  module _ (ha : a ≤ 65535) where
    pub second_large : 255 < b → None ≡ numbers_fitted a b c d
    second_large h = rw (le-leb a 65535 ha, lt-leb b 255 h)

    module _ (hb : b ≤ 255) where
      pub third_large : 255 < c → None ≡ numbers_fitted a b c d
      third_large h = rw (le-leb a 65535 ha, le-leb b 255 hb, lt-leb c 255 h)

      module _ (hc : c ≤ 255) where
        pub fourth_large : 255 < d → None ≡ numbers_fitted a b c d
        fourth_large h = rw (le-leb a 65535 ha, le-leb b 255 hb, le-leb c 255 hc, lt-leb d 255 h)

        pub numbers_fit : d ≤ 255 → Some (a * 0x1000000000000 + b * 0x10000000000 + c * 0x100000000 + d * 0x1000000) ≡ numbers_fitted a b c d
        numbers_fit h = rw (le-leb a 65535 ha, le-leb b 255 hb, le-leb c 255 hc, le-leb d 255 h)

-- a suffix's number beside two parts that are not there
module _ (n : ℕ) (a b : Option ℕ) (e : a ≡ None) (f : b ≡ None) where
  pub suffix_large : 2097151 < n → None ≡ suffix_fitted (alone n a b)
  suffix_large h = rw (e, f, lt-leb n 2097151 h)

  pub suffix_fits : n ≤ 2097151 → Some n ≡ suffix_fitted (alone n a b)
  suffix_fits h = rw (e, f, le-leb n 2097151 h)

-- the parts, as far as they were looked at
module _ (pre : Option (PreKind × ℕ)) (post dev : Option ℕ) (r : Option ℕ) where
  pub by_pre : (kind : PreKind) (n : ℕ) → pre ≡ Some (kind, n) → r ≡ suffix_fitted (alone n post dev) →
      r ≡ suffix_fitted (only_suffix pre post dev)
  by_pre kind n e f = rw e f

  pub by_post : (n : ℕ) → pre ≡ None → post ≡ Some n → r ≡ suffix_fitted (alone n None dev) →
      r ≡ suffix_fitted (only_suffix pre post dev)
  by_post n e f g = rw (e, f) g

  pub by_dev : (n : ℕ) → pre ≡ None → post ≡ None → dev ≡ Some n → r ≡ suffix_fitted (alone n None None) →
      r ≡ suffix_fitted (only_suffix pre post dev)
  by_dev n e f g h = rw (e, f, g) h

pub by_none : (pre : Option (PreKind × ℕ)) (post dev : Option ℕ) → pre ≡ None → post ≡ None → dev ≡ None → Some 0 ≡ suffix_fitted (only_suffix pre post dev)
by_none pre post dev e f g = rw (e, f, g)
