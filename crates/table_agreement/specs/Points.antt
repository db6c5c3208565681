-- The known points of document 01 that are to be proved, as one table.
use Rattle.std.specs.declared.cmp.Ordering.TheVariants.{Less, Equal}
use Rattle.std.specs.declared.cmp.Ordering.{Ordering as Order}
use Rattle.answers.specs.declared.RefusedInput.{RefusedInput}
use Rattle.std.specs.Prelude.{◌≡◌, List, [], ◌∷◌, ℕ, Result, Bool, Ok, true, false, Some}
use Prim.Native.String.{String}
use Rattle.answers.specs.Refusal.{refusal}
use Rattle.chars.specs.Text.{ascii}
use Rattle.version_reading.specs.declared.text.Verdict.TheVariants.{Accepted, Refused}
use Rattle.version_reading.specs.Reading.{pattern_of, version_of}
use Rattle.version_normal.specs.Normal.{normal_text}
use Rattle.version_order.specs.Compared.{compared}
use Rattle.version_word.specs.Beside.{word_is}
use Rattle.version_word.specs.Worded.{word_answer}
use Rattle.list_clauses.specs.List.{Listing, refused, clauses, list_of}
use Rattle.list_accepting.specs.Accept.{accepted}
use Rattle.list_ends.specs.Shape.{ranges_of}
use Rattle.table_reading.specs.Text.{table_text}

-- a text and its normal text; a text's refusal as a version, and as a pattern; how two texts compare; a text's word; what a list says of a
-- text; the bytes that a list is compiled to
pub data Point : Type 0 where
  prints : String → String → Point
  refuses : String → ℕ → ℕ → Point
  no_pattern : String → ℕ → ℕ → Point
  compares : String → String → Result Order RefusedInput → Point
  packs : String → ℕ → Point
  says : String → String → Result Bool RefusedInput → Point
  compiles : String → List ℕ → Point

-- the bytes of the table that a list says; a refused list says none
abbrev pub table_said : Listing → List ℕ
table_said (refused number place) = []
table_said (clauses cs) = table_text (ranges_of cs)

abbrev pub Holds : Point → Type 0
Holds (prints s t) = ((version_of (ascii s)).verdict ≡ Accepted) × (normal_text (ascii s) ≡ ascii t)
Holds (refuses s number place) = (version_of (ascii s)).verdict ≡ Refused (refusal number place)
Holds (no_pattern s number place) = (pattern_of (ascii s)).verdict ≡ Refused (refusal number place)
Holds (compares s t order) = compared (ascii s) (ascii t) ≡ order
Holds (packs s word) = word_answer (ascii s) ≡ Ok (Some (word_is word))
Holds (says list s answer) = accepted (ascii list) (ascii s) ≡ answer
Holds (compiles list bytes) = table_said (list_of (ascii list)) ≡ bytes

-- two ranges: from before 4.2 to before 4.3, and from after 4.3 on
abbrev pub example_table : List ℕ
example_table =
    0x02 ∷ 0x00 ∷ 0x01 ∷ 0x00 ∷ 0x02 ∷ 0x00
    ∷ 0x03 ∷ 0x00 ∷ 0x03 ∷ 0x00 ∷ 0x34 ∷ 0x2E ∷ 0x32
    ∷ 0x03 ∷ 0x00 ∷ 0x06 ∷ 0x00 ∷ 0x34 ∷ 0x2E ∷ 0x33
    ∷ 0x03 ∷ 0x00 ∷ 0x04 ∷ 0x00 ∷ 0x34 ∷ 0x2E ∷ 0x33
    ∷ 0x00 ∷ 0x00 ∷ 0x05 ∷ 0x00
    ∷ []

abbrev pub points : List Point
points =
    prints "1.0-1" "1.0.post1"
    ∷ refuses "1.0-" 5 3
    ∷ no_pattern "1.* " 7 3
    ∷ refuses "1.* " 6 1
    ∷ prints "1.0A-" "1.0a0"
    ∷ prints "1+0018" "1+18"
    ∷ compares "1+18446744073709551616" "1+0" (Ok Less)
    ∷ compares "1.0a1.dev18446744073709551615" "1.0a1" (Ok Equal)
    ∷ packs "1.2.3" 0x0001020300A00000
    ∷ packs "65535.255.255.255.post2097151" 0xFFFFFFFFFFDFFFFF
    ∷ compares "4.9" "4.10" (Ok Less)
    ∷ says "~=4.2.1" "4.2.9" (Ok true)
    ∷ says "~=4.2.1" "4.3" (Ok false)
    ∷ compiles ">=4.2,!=4.3" example_table
    ∷ []
