-- Answer lines: what is put, part by part, and that each finds room.
-- Assumes nothing.
use Rattle.answers.specs.declared.RefusedInput.{RefusedInput}
use Rattle.std.specs.Prelude.{Result, Ok}
use mathlib.Core.Path.{◌≡◌, sym, ◌∙◌}
use mathlib.Core.List.{List, [], ◌∷◌, ◌++◌}
use Prim.Native.Nat.{ℕ, ◌<◌}
use native.Mathlib.Omega.{arith}
use lib.ListN.{length-append}
use Rattle.chars.specs.Text.{ascii}
use Rattle.decimal.specs.Digits.{decimal}
use Rattle.decimal.specs.Put.{Wrote, Put}
use Rattle.decimal.proofs.Figures.{few_digits}
use Rattle.decimal.proofs.Puts.{then}
use Rattle.lines.specs.Window.{line_feed}
use Rattle.version_normal.specs.Normal.{normal_text}
use Rattle.version_roundtrip.proofs.Roundtrip.{normal_longest}
use Rattle.register_entries.specs.declared.entry.Entry.{Entry}
use Rattle.register_rules.specs.declared.lowest.Lowest.{Lowest}
use Rattle.register_rules.specs.declared.lowest.Lowest.TheVariants.{Two}
use Rattle.register_rules.proofs.Exactly.{by_accepted}
use Rattle.register_rules.specs.Fit.{fit_of}
use Rattle.answer_lines.specs.Text.{normal_line}
use Rattle.fits.specs.Answer.{several_text, lowest_text, fit_line, longest_answer}

-- an identifier has at most five digits
pub id_put : {a b : List ℕ} {i j n : ℕ} → Put 20 a i (decimal n) b j → n < 65536 → Put 5 a i (decimal n) b j
id_put {n = n} p h = record { wrote = p.wrote; near = omega (arith, p.wrote.moved, few_digits 4 n (omega arith)) }

pub four_put : (s t u v : List ℕ) {a b c d e : List ℕ} {i j k l m : ℕ} → Wrote a i s b j → Wrote b j t c k → Wrote c k u d l → Wrote d l v e m →
    Wrote a i (s ++ t ++ u ++ v) e m
four_put s t u v p q r w = then (then (then p q) r) w

-- two identifiers
module _ {a b : List ℕ} {i j : ℕ} (lowest : Lowest) where
  pub lowest_two : (first second : ℕ) → lowest ≡ Two first second → Put 19 a i (several_text first second) b j → Put 19 a i (lowest_text lowest) b j
  lowest_two first second e p = rw e p

module _ (es : List Entry) (tables version : List ℕ) {fit : Result Lowest RefusedInput} (e : fit ≡ fit_of es tables version) where
  module _ {at next : ℕ} {old new : List ℕ} where
    pub fit_by : (lowest : Lowest) {name most : ℕ} {middle : List ℕ} → fit ≡ Ok lowest → Put 19 old at (lowest_text lowest) middle name →
        Put most middle name (normal_line (ascii " ") version) new next → Put longest_answer old at (fit_line (fit_of es tables version) version) new next
    fit_by lowest f p q =
        let accepted = by_accepted es tables version lowest (sym e ∙ f) in
        record {
          wrote = rw (← e, f) (then p.wrote q.wrote);
          near =
              omega (
                arith,
                p.near,
                q.wrote.moved,
                normal_longest version accepted,
                length-append (ascii " ") (normal_text version),
                length-append (ascii " " ++ normal_text version) (line_feed ∷ []),
              );
        }
