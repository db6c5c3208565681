-- The error that a `?` hands on.
-- Assumes nothing.
use Rattle.std.specs.Prelude.{◌≡◌, Result, Err}
use Rattle.std.specs.Result.{IsErrAnd}
use Rattle.std.proofs.lemmas.Result.{err_from_is_err_and}

pub handed_on : {T E : Type 0} (q : Result T E) (e : E) → IsErrAnd q (λ y. y ≡ e) → q ≡ Err e
handed_on q e h = let p = err_from_is_err_and q h in rw (p.1, p.2)
