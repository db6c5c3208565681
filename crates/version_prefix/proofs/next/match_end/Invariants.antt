-- `version_prefix::next::match_end`: what is left of the prefix, its first `last` numbers, ends where the prefix does.
use Rattle.std.proofs.Common.{◌≡◌, min}
use Rattle.version_prefix.specs.Next.{next_fields}
use Rattle.version_prefix.proofs.next.match_end.Given as goal

abbrev pub invariant-loop-last : goal.invariant-loop-last
invariant-loop-last l = next_fields l.v.epoch l.v.release l.last ≡ next_fields l.v.epoch l.v.release (min l.count 16)
