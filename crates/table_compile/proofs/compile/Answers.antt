-- The list's refusal, or its table.
use Rattle.std.proofs.Common.{rules}
use Rattle.version_parts.proofs.Joined.{handed_on}
use Rattle.table_compile.proofs.Compiling.{table_fits, compile_refused, compile_printed}
use Rattle.table_compile.proofs.compile.Goals as goal

pub returns-in_err-folded : goal.returns-in_err-folded
returns-in_err-folded c =
    rw (handed_on c.from_residual.result c.in_err-folded.field-0.0 c.from_residual.ensures.1)
    (search (compile_refused, rules, c.in_err-folded.was))

pub print_table-requires : goal.print_table-requires
print_table-requires c = record { few = search rules; short = search (table_fits, rules, c.in_ok-folded.was) }

pub returns : goal.returns
returns c = search (compile_printed, rules, c.in_ok-folded.was)
