use Rattle.std.proofs.Common.{◌≡◌, ◌≤◌, length}
use Rattle.lookup.proofs.answer_versions.Given as goal

-- the answers that were gathered lie inside their buffer
abbrev pub invariant-loop : goal.invariant-loop
invariant-loop g l = (l.answers.end ≤ length l.answers.buffer.now) × (length l.answers.buffer.now ≡ 65536)
