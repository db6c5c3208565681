-- Answer lines: what is put, and that each finds room.
-- Assumes nothing.
use Rattle.answers.specs.declared.RefusedInput.TheVariants.{First, Second}
use Rattle.answers.specs.declared.RefusedInput.{RefusedInput}
use Rattle.std.specs.Prelude.{Result, Ok, Err}
use mathlib.Core.Path.{◌≡◌, refl, sym, ap, ◌∙◌}
use mathlib.Core.Bool.{Bool, true, false, false≢true}
use mathlib.Core.List.{List, [], ◌∷◌, ◌++◌}
use Prim.Native.Nat.{ℕ, ◌≤◌}
use native.Mathlib.Omega.{arith}
use lib.ListN.{length, length-append}
use Rattle.answers.specs.declared.Refusal.{Refusal}
use Rattle.chars.specs.Text.{ascii}
use Rattle.decimal.specs.Put.{Put}
use Rattle.lines.specs.Window.{line_feed}
use Rattle.version_reading.specs.declared.text.Verdict.{Verdict}
use Rattle.version_reading.specs.declared.text.Verdict.TheVariants.{Accepted, Refused}
use Rattle.version_reading.specs.Reading.{version_of}
use Rattle.version_reading.specs.Value.{Value, value_in}
use Rattle.version_normal.specs.Normal.{normal_text}
use Rattle.version_roundtrip.proofs.Roundtrip.{normal_longest}
use Rattle.table_reading.specs.Table.{Tabled, refused, ranges, table_of}
use Rattle.table_reading.specs.Lookup.{looked_up, looked}
use Rattle.answer_lines.specs.Text.{refusal_line, normal_line}
use Rattle.lookup.specs.Answer.{answer_line, longest_answer}

-- the version was read
abbrev says : Result Bool RefusedInput → Bool
says (Ok true) = true
says (Ok false) = true
says (Err (First r)) = false
says (Err (Second r)) = false

said : (T : Tabled) (d : Verdict) (w : Value) → says (looked_up T d w) ≡ true → d ≡ Accepted
said (refused number place) d w h = absurd (false≢true h)
said (ranges T) (Refused r) w h = absurd (false≢true h)
said (ranges T) Accepted w h = refl

module _ (table version : List ℕ) {r : Result Bool RefusedInput} (e : r ≡ looked table version) where
  fits : (name : List ℕ) → says r ≡ true → length name ≤ 4 → length (normal_line name version) ≤ longest_answer
  unfolding looked
  fits name h g =
      let accepted = said (table_of table) (version_of version).verdict (value_in version) (ap says (sym e) ∙ h) in
      omega (
        arith,
        normal_longest version accepted,
        length-append name (normal_text version),
        length-append (name ++ normal_text version) (line_feed ∷ []),
      )

  module _ {most at next : ℕ} {old new : List ℕ} where
    pub answer_yes : (b : Bool) → r ≡ Ok b → b ≡ true → Put most old at (normal_line (ascii "yes ") version) new next →
        Put longest_answer old at (answer_line (looked table version) version) new next
    answer_yes b f g p =
        let h : r ≡ Ok true = rw g at f in
        record {
          wrote = rw (← e, h) p.wrote;
          near = omega (arith, p.wrote.moved, fits (ascii "yes ") (ap says h) (omega arith));
        }

    pub answer_no : (b : Bool) → r ≡ Ok b → b ≡ false → Put most old at (normal_line (ascii "no ") version) new next →
        Put longest_answer old at (answer_line (looked table version) version) new next
    answer_no b f g p =
        let h : r ≡ Ok false = rw g at f in
        record {
          wrote = rw (← e, h) p.wrote;
          near = omega (arith, p.wrote.moved, fits (ascii "no ") (ap says h) (omega arith));
        }

    module _ (x : Refusal) (few : most ≤ longest_answer) where
      pub answer_table : (input : RefusedInput) → r ≡ Err input → input ≡ First x → Put most old at (refusal_line (ascii "table refused ") x) new next →
          Put longest_answer old at (answer_line (looked table version) version) new next
      answer_table input f g p = record { wrote = rw (← e, f, g) p.wrote; near = omega (arith, p.near, few) }
