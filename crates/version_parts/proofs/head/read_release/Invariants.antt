-- The release from here on is the release from the start, and a number is added at each turn.
use Rattle.std.proofs.Common.{◌≡◌, ◌≤◌, ◌-◌, length}
use Rattle.version_parts.specs.Fields.{only_number}
use Rattle.version_parts.specs.Head.{release_from}
use Rattle.version_parts.proofs.head.read_release.Given as goal

abbrev pub invariant-loop-n : goal.invariant-loop-n
invariant-loop-n l =
    (l.release.len ≤ 16)
    × (l.at ≤ length l.s)
    × (release_from (16 - l.release.len) l.s l.epoch l.release l.at ≡ release_from 15 l.s l.epoch (only_number l.first) l.from)

abbrev pub decreases-loop-n : goal.decreases-loop-n
decreases-loop-n l = 16 - l.release.len
