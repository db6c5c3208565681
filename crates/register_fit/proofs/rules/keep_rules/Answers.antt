-- A rule that is broken.
use Rattle.std.proofs.Common.{rules, arith}
use Rattle.std.proofs.lemmas.Result.{err_from_is_err_and}
use Rattle.register_fit.proofs.Keeping.{zero_refused, taken_refused}
use Rattle.register_fit.proofs.rules.keep_rules.Goals as goal

pub returns-in_err-refuse_at : goal.returns-in_err-refuse_at
returns-in_err-refuse_at c =
    let p = err_from_is_err_and c.from_residual.result c.from_residual.ensures.1 in
    rw (p.1, p.2) (search (zero_refused, rules))

pub returns-in_err-refuse_at-2 : goal.returns-in_err-refuse_at-2
returns-in_err-refuse_at-2 c =
    let p = err_from_is_err_and c.from_residual-in_err-refuse_at-2.result c.from_residual-in_err-refuse_at-2.ensures.1 in
    rw (p.1, p.2) (taken_refused _ _ (omega (arith, c.if-entries-gt64.false)) _ _ c.first_zero.ensures c.refuse_at.ensures _ c.in_ok-refuse_at.was _ _ c.first_repeated.ensures c.refuse_at-2.ensures _
    c.in_err-refuse_at-2.was)
