use Rattle.fits.specs.Gather.{Standing}
use Rattle.fits.proofs.gather.gather.Given as goal

-- the lines so far make the shelf
abbrev pub invariant-loop-k : goal.invariant-loop-k
invariant-loop-k g l = Standing l.tables l.shelf l.k
