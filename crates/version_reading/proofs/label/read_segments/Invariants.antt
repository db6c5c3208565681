-- The segments from here on are the segments from the start, and one is added at each turn.
use Rattle.std.proofs.Common.{◌≡◌, ◌≤◌, ◌-◌, length}
use Rattle.version_parts.specs.Fields.{no_local}
use Rattle.version_reading.specs.Label.{segments_from}
use Rattle.version_reading.proofs.label.read_segments.Given as goal

abbrev pub invariant-loop-at : goal.invariant-loop-at
invariant-loop-at l =
    (l.local.len ≤ 16) × (l.at ≤ length l.s) × (segments_from (16 - l.local.len) l.s l.local l.at ≡ segments_from 16 l.s no_local l.from)

abbrev pub decreases-loop-at : goal.decreases-loop-at
decreases-loop-at l = 16 - l.local.len
