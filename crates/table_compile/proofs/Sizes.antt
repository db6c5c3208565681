-- How long the text of a table can be: no end has a label, so that none is longer than 427 bytes.
-- Assumes nothing.
use mathlib.Core.Path.{◌≡◌}
use mathlib.Core.List.{List, [], ◌∷◌, ◌++◌}
use Prim.Native.Nat.{ℕ, ◌+◌, ◌*◌, ◌≤◌}
use native.Mathlib.Omega.{arith}
use lib.ListN.{length, length-append}
use Rattle.order.specs.All.{All}
use Rattle.records.specs.Record.{two_bytes_of, record_text}
use Rattle.records.proofs.Writing.{two_long, record_long}
use Rattle.ranges.specs.Cut.{bot, top, before, after}
use Rattle.ranges.specs.Range.{Range}
use Rattle.version_roundtrip.proofs.Unlabelled.{unlabelled_length}
use Rattle.list_clauses.specs.declared.clause.Clause.{Clause}
use Rattle.list_clauses.specs.List.{clauses, list_of}
use Rattle.list_ends.specs.Cut.{Place}
use Rattle.list_ends.specs.Shape.{ranges_of}
use Rattle.list_ends.specs.Writable.{Lower, Upper, Written}
use Rattle.list_ends.proofs.Written.{ends_written}
use Rattle.table_reading.specs.Kind.{range_count}
use Rattle.table_reading.specs.Text.{lower_kind, upper_kind, body_text, lower_text, upper_text, ranges_text, table_text}

lower_body : (p : Place) → Lower p → length (body_text p) ≤ 427
lower_body bot w = omega arith
lower_body top w = absurd w
lower_body (before v) w = unlabelled_length v w.readable w.unlabelled
lower_body (after v) w = unlabelled_length v w.readable w.unlabelled

upper_body : (p : Place) → Upper p → length (body_text p) ≤ 427
upper_body bot w = absurd w
upper_body top w = omega arith
upper_body (before v) w = unlabelled_length v w.readable w.unlabelled
upper_body (after v) w = unlabelled_length v w.readable w.unlabelled

ranges_size : (T : List (Range Place)) → All Written T → length (ranges_text T) ≤ 862 * length T
unfolding ranges_text
ranges_size [] w = omega arith
ranges_size (r ∷ T) w =
    omega (
      arith,
      lower_body r.lo w.0.lower,
      upper_body r.hi w.0.upper,
      record_long (lower_kind r.lo) (body_text r.lo),
      record_long (upper_kind r.hi) (body_text r.hi),
      length-append (lower_text r.lo) (upper_text r.hi ++ ranges_text T),
      length-append (upper_text r.hi) (ranges_text T),
      ranges_size T w.1,
    )

-- by its count of ranges
pub table_within : (s : List ℕ) (cs : List Clause) → list_of s ≡ clauses cs → length (table_text (ranges_of cs)) ≤ 862 * length (ranges_of cs) + 6
unfolding table_text
table_within s cs e =
    omega (
      arith,
      length-append (record_text range_count (two_bytes_of (length (ranges_of cs)))) (ranges_text (ranges_of cs)),
      record_long range_count (two_bytes_of (length (ranges_of cs))),
      two_long (length (ranges_of cs)),
      ranges_size (ranges_of cs) (ends_written s cs e),
    )
