-- Behind the buffer's end, and within it.
use Rattle.register_lines.proofs.Entering.{list_past, list_put}
use Rattle.register_lines.proofs.shelf.put_list.Goals as goal

pub returns-then-tables-used : goal.returns-then-tables-used
returns-then-tables-used c = search list_past

pub returns : goal.returns
returns c = search list_put
