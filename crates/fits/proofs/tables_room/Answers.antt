-- The length by its law: counting the zeros would take too long.
use mathlib.Core.Path.{sym}
use Prim.Native.Nat.{ℕ}
use lib.ListN.{length-replicate}
use Rattle.fits.proofs.tables_room.Goals as goal

pub returns : goal.returns
returns c = sym (length-replicate {0} {A = ℕ} 1048576 0)
