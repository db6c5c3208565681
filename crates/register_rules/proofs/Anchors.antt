-- Worked points, by computation from a buffer with three tables. They anchor the definitions against changes that would keep every law.
-- Assumes nothing.
use Rattle.answers.specs.declared.RefusedInput.TheVariants.{First, Second}
use Rattle.register_rules.specs.declared.lowest.Lowest.{Lowest}
use Rattle.answers.specs.declared.RefusedInput.{RefusedInput}
use Rattle.std.specs.Prelude.{Result, Ok, Err}
use mathlib.Core.Path.{◌≡◌, refl}
use mathlib.Core.List.{List, [], ◌∷◌, ◌++◌, map}
use Prim.Native.Nat.{ℕ}
use Prim.Native.String.{String}
use lib.ListN.{replicate}
use Rattle.answers.specs.Refusal.{refusal}
use Rattle.chars.specs.Text.{ascii}
use Rattle.version_reading.specs.Value.{listed, value_of}
use Rattle.version_order.specs.Versions.{compare_release, compare_key, compare_public}
use Rattle.version_roundtrip.proofs.Extremes.{computed}
use Rattle.records.specs.Record.{record_at}
use Rattle.version_rows.specs.Normal.{normal_value}
use Rattle.table_reading.specs.Kind.{kind_of}
use Rattle.table_reading.specs.Table.{ranges_from, table_of}
use Rattle.table_reading.specs.Lookup.{looked}
use Rattle.register_entries.specs.declared.entry.Entry.{Entry}
use Rattle.register_rules.specs.declared.lowest.Lowest.TheVariants.{Nothing, One, Two}
use Rattle.register_rules.specs.Lowest.{lowest_from}
use Rattle.register_entries.specs.Held.{has}
use Rattle.register_rules.specs.Guilt.{first_from}
use Rattle.register_rules.specs.Fit.{fitting, fit_of}

-- where this unfolds, all that the register computes with does
everything : List Entry → List ℕ → List ℕ → Result Lowest RefusedInput
unfolding computed fit_of fitting lowest_from has first_from looked table_of ranges_from record_at kind_of normal_value compare_public compare_release
    compare_key value_of listed
everything es buffer text = fit_of es buffer text

-- the tables of every version, of none, and of those from 4.2 on, one after the other: 14, 6 and 17 bytes
abbrev buffer : List ℕ
buffer =
    (2 ∷ 0 ∷ 1 ∷ 0 ∷ 1 ∷ 0 ∷ 0 ∷ 0 ∷ 2 ∷ 0 ∷ 0 ∷ 0 ∷ 5 ∷ 0 ∷ []) ++
    (2 ∷ 0 ∷ 1 ∷ 0 ∷ 0 ∷ 0 ∷ []) ++
    (2 ∷ 0 ∷ 1 ∷ 0 ∷ 1 ∷ 0 ∷ 3 ∷ 0 ∷ 3 ∷ 0 ∷ []) ++ ascii "4.2" ++ (0 ∷ 0 ∷ 5 ∷ 0 ∷ [])

-- an entry by its identifier, with the table of every version, of none, from 4.2 on
abbrev entry : ℕ → ℕ → ℕ → Entry
entry id start length = record { id = id; start = start; length = length }

abbrev every : ℕ → Entry
every id = entry id 0 14

abbrev empty : ℕ → Entry
empty id = entry id 14 6

abbrev new : ℕ → Entry
new id = entry id 20 17

-- with a table whose last byte lies after the buffer, and with one that lacks its last byte
abbrev beyond : ℕ → Entry
beyond id = entry id 20 18

abbrev cut : ℕ → Entry
cut id = entry id 0 13

record Point : Type 0 where
  entries : List Entry
  text : String
  fit : Result Lowest RefusedInput

abbrev point : List Entry → String → Result Lowest RefusedInput → Point
point es text fit = record { entries = es; text = text; fit = fit }

abbrev Holds : List Point → Type 0
Holds points = map (λ p. fit_of p.entries buffer (ascii p.text)) points ≡ map (λ p. p.fit) points

-- no entry, one, two, and two of more, wherever the lowest stand
abbrev accepted : List Point
accepted =
    point [] "4.2" (Ok Nothing)
    ∷ point (empty 1 ∷ new 2 ∷ empty 3 ∷ []) "4.1" (Ok Nothing)
    ∷ point (empty 1 ∷ new 2 ∷ empty 3 ∷ []) "4.2" (Ok (One 2))
    ∷ point (new 1 ∷ empty 2 ∷ every 3 ∷ []) "4.1" (Ok (One 3))
    ∷ point (new 1 ∷ empty 2 ∷ every 3 ∷ []) "4.2" (Ok (Two 1 3))
    ∷ point (every 9 ∷ empty 1 ∷ every 4 ∷ []) "4.2" (Ok (Two 4 9))
    ∷ point (every 3 ∷ every 7 ∷ every 9 ∷ []) "1" (Ok (Two 3 7))
    ∷ point (every 3 ∷ every 9 ∷ every 7 ∷ []) "1" (Ok (Two 3 7))
    ∷ point (every 7 ∷ every 3 ∷ every 9 ∷ []) "1" (Ok (Two 3 7))
    ∷ point (every 7 ∷ every 9 ∷ every 3 ∷ []) "1" (Ok (Two 3 7))
    ∷ point (every 9 ∷ every 3 ∷ every 7 ∷ []) "1" (Ok (Two 3 7))
    ∷ point (every 9 ∷ every 7 ∷ every 3 ∷ []) "1" (Ok (Two 3 7))
    ∷ []

pub accepted_hold : Holds accepted
unfolding everything
accepted_hold = refl

-- 31 goes before 32, 32 before 33 and 33 before the table's own, though the earlier entries break the later rules
abbrev by_rule : List Point
by_rule =
    point (cut 1 ∷ beyond 2 ∷ every 1 ∷ every 0 ∷ []) "x" (Err (First (refusal 31 3)))
    ∷ point (cut 1 ∷ beyond 2 ∷ every 1 ∷ every 4 ∷ []) "x" (Err (First (refusal 32 2)))
    ∷ point (cut 1 ∷ beyond 2 ∷ every 3 ∷ every 4 ∷ []) "x" (Err (First (refusal 33 1)))
    ∷ point (cut 1 ∷ new 2 ∷ every 3 ∷ every 4 ∷ []) "x" (Err (First (refusal 18 0)))
    ∷ []

pub by_rule_hold : Holds by_rule
unfolding everything
by_rule_hold = refl

-- the lowest index, of those that break one rule
abbrev by_index : List Point
by_index =
    point (every 1 ∷ every 0 ∷ every 0 ∷ []) "1" (Err (First (refusal 31 1)))
    ∷ point (every 1 ∷ every 2 ∷ every 1 ∷ every 2 ∷ []) "1" (Err (First (refusal 32 2)))
    ∷ point (every 1 ∷ beyond 2 ∷ beyond 3 ∷ []) "1" (Err (First (refusal 33 1)))
    ∷ point (every 1 ∷ cut 2 ∷ cut 3 ∷ []) "1" (Err (First (refusal 18 1)))
    ∷ []

pub by_index_hold : Holds by_index
unfolding everything
by_index_hold = refl

-- where a table ends: with the buffer, a byte after it, and an empty one at the buffer's end and after it
abbrev by_end : List Point
by_end =
    point (new 1 ∷ []) "4.2" (Ok (One 1))
    ∷ point (beyond 1 ∷ []) "4.2" (Err (First (refusal 33 0)))
    ∷ point (entry 1 37 0 ∷ []) "4.2" (Err (First (refusal 18 0)))
    ∷ point (entry 1 38 0 ∷ []) "4.2" (Err (First (refusal 33 0)))
    ∷ []

pub by_end_hold : Holds by_end
unfolding everything
by_end_hold = refl

-- 64 entries are judged by the other rules, 65 are too many
abbrev by_count : List Point
by_count =
    point (replicate 64 (every 0)) "1" (Err (First (refusal 31 0)))
    ∷ point (replicate 64 (every 1)) "1" (Err (First (refusal 32 1)))
    ∷ point (replicate 65 (every 0)) "1" (Err (First (refusal 30 64)))
    ∷ point (replicate 66 (every 1)) "x" (Err (First (refusal 30 64)))
    ∷ []

pub by_count_hold : Holds by_count
unfolding everything
by_count_hold = refl

-- the version's refusal comes last, and of no register that is refused; no entry need be there
abbrev by_version : List Point
by_version =
    point (every 1 ∷ empty 2 ∷ []) "x" (Err (Second (refusal 1 0)))
    ∷ point [] "x" (Err (Second (refusal 1 0)))
    ∷ point (every 1 ∷ cut 2 ∷ []) "x" (Err (First (refusal 18 1)))
    ∷ []

pub by_version_hold : Holds by_version
unfolding everything
by_version_hold = refl
