-- `boundary_fields::fields::put_numbers`: what the numbers were copied over is what storing them one by one leaves.
use Rattle.boundary_fields.proofs.Rows.{part_stored}
use Rattle.boundary_fields.proofs.fields.put_numbers.Goals as goal

pub returns : goal.returns
returns c = search part_stored
