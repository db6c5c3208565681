-- So far the first bytes are written.
use Rattle.std.proofs.Common.{◌+◌, ◌≤◌, take}
use Rattle.decimal.specs.Put.{Wrote}
use Rattle.decimal.proofs.put.put_bytes.Given as goal

abbrev pub invariant-loop-b : goal.invariant-loop-b
invariant-loop-b l = (l.next ≤ l.at + l.b-index) × Wrote l.initial.buf l.at (take l.b-index l.s) l.buf l.next
