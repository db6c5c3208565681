-- The clause of the quick way.
use Rattle.std.proofs.Common.{rules}
use Rattle.list_accepting.proofs.PlainClauses.{found_filled, judged_plain}
use Rattle.list_accepting.proofs.plain_accept.judge_plain.Goals as goal

pub all_hold-requires : goal.all_hold-requires
all_hold-requires c = (search found_filled, search rules)

pub returns-in-Some : goal.returns-in-Some
returns-in-Some c = search (judged_plain, rules)
