-- Worked points, by computation from the bytes of lines.
-- Assumes nothing.
use mathlib.Core.Path.{◌≡◌, refl}
use mathlib.Core.List.{List, [], ◌∷◌, map}
use Prim.Native.Nat.{ℕ}
use Prim.Native.String.{String}
use lib.ListN.{replicate}
use Rattle.answers.specs.Refusal.{refusal}
use Rattle.answers.specs.Printed.{answer, filled}
use Rattle.chars.specs.Scan.{index_after, index_of}
use Rattle.chars.specs.Text.{ascii}
use Rattle.chars.specs.Class.{class_of, between, front}
use Rattle.decimal.specs.Parse.{digit_of, value_from, number_of, leading_of}
use Rattle.version_reading.specs.Reading.{starred}
use Rattle.version_reading.specs.Value.{listed, label_from, value_of}
use Rattle.version_roundtrip.specs.Text.{value_text}
use Rattle.version_roundtrip.proofs.Extremes.{computed}
use Rattle.version_order.specs.Versions.{compare_release, compare_key, compare_public}
use Rattle.list_clauses.proofs.Computed.{computed_list}
use Rattle.list_accepting.specs.Accept.{holds, accepted}
use Rattle.list_ends.specs.Shape.{ranges_of}
use Rattle.records.specs.Record.{two_bytes_of, record_text}
use Rattle.table_reading.specs.Text.{ranges_text, table_text}
use Rattle.register_entries.specs.Held.{held_of, entries_in, has}
use Rattle.register_lines.specs.Line.{id_said, id_of, list_in}
use Rattle.register_lines.specs.Enter.{empty_shelf, entered}
use Rattle.register_lines.specs.Shelved.{taken, refusal_in, refusal_behind, acceptors}

-- a line with its identifier, which is 0 where it has none, and its list
record Point : Type 0 where
  line : String
  id : ℕ
  list : String

abbrev point : String → ℕ → String → Point
point line id list = record { line = line; id = id; list = list }

abbrev points : List Point
points =
    point "7 >=4.2" 7 ">=4.2"
    -- zeros in front, one blank and no more, an empty list
    ∷ point "00007  >=4.2 " 7 " >=4.2 "
    ∷ point "65535 " 65535 ""
    -- too big, 0, a byte that is no digit, no digit, no blank
    ∷ point "65536 x" 0 "x"
    ∷ point "18446744073709551617 x" 0 "x"
    ∷ point "000 x" 0 "x"
    ∷ point "7a x" 0 "x"
    ∷ point "+7 x" 0 "x"
    ∷ point " 7 x" 0 "7 x"
    ∷ point "7" 0 ""
    ∷ point "" 0 ""
    ∷ []

pub ids_said : map (λ p. id_of (ascii p.line)) points ≡ map (λ p. p.id) points
unfolding id_of id_said index_of index_after leading_of number_of value_from digit_of front between class_of
ids_said = refl

pub lists_behind : map (λ p. list_in (ascii p.line)) points ≡ map (λ p. ascii p.list) points
unfolding list_in index_of index_after
lists_behind = refl

abbrev three : List (List ℕ)
three = ascii "7 >=4.2" ∷ ascii "9 <5" ∷ ascii "8 ==1" ∷ []

-- a fourth line: its own identifier, one that is taken, none, and a list that is refused, at a place of the list
pub fourth_line : map (λ s. refusal_behind three (ascii s)) ("10 >1" ∷ "09 >1" ∷ "65536 >1" ∷ "10 >1,,<2" ∷ [])
    ≡ refusal 0 0 ∷ refusal 32 0 ∷ refusal 31 0 ∷ refusal 12 3 ∷ []
unfolding computed computed_list starred id_of id_said list_in taken
fourth_line = refl

pub in_their_order : map (λ s. acceptors three (ascii s)) ("4.3" ∷ "5" ∷ "1" ∷ "x" ∷ []) ≡ (7 ∷ 9 ∷ []) ∷ (7 ∷ []) ∷ (9 ∷ 8 ∷ []) ∷ [] ∷ []
unfolding computed computed_list starred listed label_from value_of compare_release compare_key compare_public id_of id_said list_in acceptors holds
    accepted
in_their_order = refl

-- a table of 17 bytes, with room for it and with a byte too little
pub first_line : map (λ n. refusal_in (entered (replicate n 0) empty_shelf (ascii "7 >=4.2"))) (17 ∷ 16 ∷ []) ≡ refusal 0 0 ∷ refusal 11 17 ∷ []
unfolding computed computed_list starred listed label_from value_of value_text compare_release compare_key compare_public id_of id_said list_in ranges_of two_bytes_of
    record_text ranges_text table_text answer filled held_of entries_in has empty_shelf entered
first_line = refl
