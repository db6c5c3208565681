-- No line yet, one line more, and a line that is refused.
use Rattle.fits.proofs.Gathers.{no_line, line_entered, line_refused}
use Rattle.fits.proofs.gather.gather.Goals as goal

pub loop-k-init : goal.loop-k-init
loop-k-init g c = search no_line

pub loop-k-preserved : goal.loop-k-preserved
loop-k-preserved g c = search line_entered

pub returns-in-Err : goal.returns-in-Err
returns-in-Err g c = search line_refused
