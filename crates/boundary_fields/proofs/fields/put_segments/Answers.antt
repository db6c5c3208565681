-- `boundary_fields::fields::put_segments`: one law for each way.
use Rattle.boundary_fields.proofs.Rows.{row_next, rows_done}
use Rattle.boundary_fields.proofs.fields.put_segments.Goals as goal

pub loop-i-preserved : goal.loop-i-preserved
loop-i-preserved c = search row_next

pub returns : goal.returns
returns c = search rows_done
