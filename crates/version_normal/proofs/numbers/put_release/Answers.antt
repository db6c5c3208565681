-- `version_normal::numbers::put_release`: one law for each way.
use Rattle.std.proofs.Common.{rules}
use Rattle.version_normal.proofs.Joins.{join_start, release_none, release_next, release_near, release_done}
use Rattle.version_normal.proofs.numbers.put_release.Goals as goal

pub returns-then-count-eq0 : goal.returns-then-count-eq0
returns-then-count-eq0 c = record { wrote = search release_none; near = search rules }

pub loop-number-init : goal.loop-number-init
loop-number-init c = record { near = search rules; wrote = search join_start }

pub loop-number-preserved : goal.loop-number-preserved
loop-number-preserved c = record {
  near = search rules;
  wrote = release_next _ _ c.held-count.ensures _ c.if-count-eq0.false (search rules) c.loop-number.invariant.wrote c.loop-number-test.true
      c.put_byte-dot.ensures.wrote c.put_number-next-in-loop-number.ensures.wrote;
}

pub returns : goal.returns
returns c = record { wrote = search release_done; near = search (rules, release_near) }
