-- `boundary_fields::fields::put_fields` meets its contract: three writers in a row fill the fields.
-- Assumes nothing.
use borrow.Author.Rules.{rules, length_unmapped}
use Rattle.boundary_fields.proofs.Rows.{fields_full}
use Rattle.boundary_fields.proofs.fields.put_fields.Goals as goal

pub returns : goal.returns
returns c =
    fields_full _ c.args.version c.args.fields.now _ _ _ (search length_unmapped) c.put_parts.ensures c.put_numbers.ensures c.put_segments.ensures (search rules)
