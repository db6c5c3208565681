-- What is told stands at the front of some window of the buffer.
use Rattle.lines.proofs.Reading.{at_the_front}
use Rattle.lines.proofs.input.next_line.Goals as goal

pub returns-in_default : goal.returns-in_default
returns-in_default g c = search at_the_front

pub returns : goal.returns
returns g c = search at_the_front
