-- The way out with a normal text, which is long.
use Rattle.fits.proofs.Answers.{fit_by}
use Rattle.fits.proofs.answer.put_fit.Goals as goal

pub returns-in-Ok : goal.returns-in-Ok
returns-in-Ok c = search fit_by
