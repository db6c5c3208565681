-- The answers leave room, or are written.
use Rattle.std.proofs.Common.{arith}
use Rattle.answer_lines.specs.Room.{Roomed}
use Rattle.answer_lines.proofs.room.make_room.Goals as goal
use Rattle.answer_lines.proofs.room.make_room.Goals.{then-end-out+else-longest-out, else-end-out}

pub returns-then-longest-out : goal.returns-then-longest-out
returns-then-longest-out g c = record { is = Roomed.behind (omega arith); within = omega arith }

pub returns-then-is_ok : goal.returns-then-is_ok
returns-then-is_ok g c = record {
  is = Roomed.emptied (elim c.if-end-out.branch [ then-end-out+else-longest-out w ↦ omega arith | else-end-out w ↦ omega arith ]);
  within = omega arith;
}

pub returns : goal.returns
returns g c = record {
  is = Roomed.closed (elim c.if-end-out.branch [ then-end-out+else-longest-out w ↦ omega arith | else-end-out w ↦ omega arith ]);
  within = omega arith;
}
