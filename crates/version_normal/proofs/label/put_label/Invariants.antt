-- `version_normal::label::put_label`: so far it wrote the plus and the first segments, joined by dots.
use Rattle.std.proofs.Common.{◌+◌, ◌*◌, ◌≤◌, ◌∷◌}
use Rattle.decimal.specs.Put.{Wrote}
use Rattle.version_reading.specs.Segment.{segment_bytes}
use Rattle.version_normal.specs.Normal.{segment_text, joined}
use Rattle.version_normal.proofs.label.put_label.Given as goal

abbrev pub invariant-loop-i : goal.invariant-loop-i
invariant-loop-i l = record {
  near : l.next ≤ l.fn.at + 65556 * l.i;
  wrote : Wrote l.fn.buf l.fn.at (43 ∷ joined (λ k. segment_text (segment_bytes l.s l.local k)) l.i) l.buf l.next;
}
