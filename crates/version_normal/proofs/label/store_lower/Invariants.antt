-- `version_normal::label::store_lower`: so far it wrote the first bytes in lower case.
use Rattle.std.proofs.Common.{◌+◌, ◌≤◌, take}
use Rattle.chars.specs.Case.{lowered}
use Rattle.decimal.specs.Put.{Wrote}
use Rattle.version_normal.proofs.label.store_lower.Given as goal

abbrev pub invariant-loop-byte : goal.invariant-loop-byte
invariant-loop-byte l = record {
  near : l.next ≤ l.at + l.byte-index;
  wrote : Wrote l.fn.buf l.at (lowered (take l.byte-index l.s)) l.buf l.next;
}
