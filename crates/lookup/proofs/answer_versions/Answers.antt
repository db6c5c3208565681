-- An answer stays inside the buffer of answers.
use borrow.Author.Rules.{rules}
use Rattle.answer_lines.proofs.Rooms.{line_inside}
use Rattle.lookup.proofs.answer_versions.Goals as goal

pub loop-preserved : goal.loop-preserved
loop-preserved g c =
    line_inside c.loop.invariant.1 (search rules) c.make_room.ensures.as_it_was (c.make_room.ensures.room (search rules)) c.put_answer.ensures
