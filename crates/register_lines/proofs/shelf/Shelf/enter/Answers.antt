-- A line that is refused, for what stands in front of its list or for the list, and one that is entered.
use Rattle.std.proofs.lemmas.Result.{err_from_is_err_and}
use Rattle.register_lines.proofs.Entering.{enter_refused, enter_unwritten, enter_placed}
use Rattle.register_lines.proofs.shelf.Shelf.enter.Goals as goal

pub returns-in_err-admit : goal.returns-in_err-admit
returns-in_err-admit c =
    let p = err_from_is_err_and c.from_residual.result c.from_residual.ensures.1 in
    rw (p.1, p.2) (enter_refused _ _ _ _ _ _ c.id_of-id.ensures c.entries.ensures c.admit.ensures _ c.in_err-admit.was)

pub returns-in_err-length : goal.returns-in_err-length
returns-in_err-length c =
    let p = err_from_is_err_and c.from_residual-in_err-length.result c.from_residual-in_err-length.ensures.1 in
    rw (p.1, p.2) (enter_unwritten _ _ _ _ _ _ c.id_of-id.ensures c.entries.ensures c.admit.ensures _ c.in_ok-admit.was _ _ _ c.list_of.ensures c.put_list.ensures _ c.in_err-length.was)

pub returns : goal.returns
returns c =
    enter_placed _ _ _ _ _ _ c.id_of-id.ensures c.entries.ensures c.admit.ensures _ c.in_ok-admit.was _ _ _ c.list_of.ensures c.put_list.ensures _ _ c.in_ok-length.was
    c.push.ensures
