-- `boundary_fields::fields::put_segments`: the rows to come, over what is written, give the whole.
use Rattle.std.proofs.Common.{◌≡◌, ◌+◌, ◌-◌, ◌*◌}
use Rattle.std.proofs.lemmas.List.Edits.{sets}
use Rattle.boundary_fields.specs.Fields.{segment_rows}
use Rattle.boundary_fields.proofs.fields.put_segments.Given as goal

abbrev pub invariant-loop-i : goal.invariant-loop-i
invariant-loop-i l =
    sets l.fields (l.at + 4 * l.i) (segment_rows l.text l.local l.i (16 - l.i)) ≡ sets l.fn.fields l.at (segment_rows l.text l.local 0 16)
