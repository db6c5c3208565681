-- The ways of reading a line.
-- Assumes nothing.
use Rattle.std.specs.Prelude.{Result, Ok, Err}
use Rattle.std.specs.Result.{OkIff, result_unwrap_or}
use mathlib.Core.Path.{◌≡◌, refl, sym, ◌∙◌}
use mathlib.Core.List.{List, []}
use Prim.Native.Nat.{ℕ, ◌+◌, ◌-◌, ◌<◌, ◌≤◌}
use native.Mathlib.Nat.{zero-add}
use native.Mathlib.Omega.{arith}
use mathlib.Core.Bool.{cond}
use lib.Dec.{ltb}
use lib.ListN.{length, take, drop, drop_of_length-le}
use borrow.Author.Tests.{lt-ltb, le-ltb, eq-eqb, ne_eqb}
use Rattle.chars.specs.Scan.{index_of}
use Rattle.chars.proofs.Parts.{take_rest}
use Rattle.register_lines.specs.Line.{space, space_at, id_where, id_said, id_of, list_in}

pub space_found : (line : List ℕ) (r : ℕ) → r ≡ 0 + index_of space (drop 0 line) → r ≡ space_at line
space_found line r e = e ∙ zero-add (index_of space line)

-- a number of `digits` digits, t being what 16 bits can say of it
module _ (number digits size : ℕ) where
  pub in_part : (digits ≡ size → ⊥) → 0 ≡ id_where number digits size
  in_part h = rw (ne_eqb digits size h)

  in_16_bits : {E : Type 0} (t : Result ℕ E) → OkIff t (number < 65536) number → result_unwrap_or t 0 ≡ cond (ltb number 65536) number 0
  in_16_bits (Ok n) (small, is) = rw (lt-ltb number 65536 small) is
  in_16_bits (Err x) big = rw (le-ltb number 65536 (omega (arith, big)))

  pub in_whole : {E : Type 0} (t : Result ℕ E) (r : ℕ) → digits ≡ size → OkIff t (number < 65536) number → r ≡ result_unwrap_or t 0 → r ≡ id_where number digits size
  in_whole t r h o g = rw (eq-eqb digits size h) (g ∙ in_16_bits t o)

-- by where the first blank stands
module _ (line : List ℕ) (at : ℕ) (e : at ≡ space_at line) where
  pub id_before : (text : List ℕ) (r : ℕ) → at < length line → text ≡ take at line → r ≡ id_said text → r ≡ id_of line
  unfolding id_of
  id_before text r h f g =
      let same : text ≡ take (space_at line) line = rw e at f in
      rw (lt-ltb (space_at line) (length line) (omega (arith, e))) (rw same at g)

  pub id_missing : length line ≤ at → 0 ≡ id_of line
  unfolding id_of
  id_missing h = rw (le-ltb (space_at line) (length line) (omega (arith, e)))

  pub list_behind : (r : List ℕ) → r ≡ take (length line - (at + 1)) (drop (at + 1) line) → r ≡ list_in line
  unfolding list_in
  list_behind r f = f ∙ take_rest line (at + 1) ∙ rw e

  pub list_missing : (r : List ℕ) → length line < at + 1 → r ≡ [] → r ≡ list_in line
  unfolding list_in
  list_missing r h f = let past : length line ≤ at + 1 = omega arith in f ∙ sym (rw (← e) (drop_of_length-le line past))
