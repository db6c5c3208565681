-- One part more, and the end.
use Rattle.std.proofs.Common.{rules, arith}
use Rattle.list_fold.proofs.Parts.{clip_start, clip_room, clip_turn, clip_end}
use Rattle.list_fold.proofs.clip.clip.Goals as goal

pub loop-range-init : goal.loop-range-init
loop-range-init c = search (clip_start, rules)

pub keep_part-parts-requires : goal.keep_part-parts-requires
keep_part-parts-requires c = (omega (arith, c.loop-range.invariant.holds.few), search (clip_room, rules))

pub loop-range-preserved : goal.loop-range-preserved
loop-range-preserved c = search (clip_turn, rules, c.keep_part-parts.ensures)

pub returns : goal.returns
returns c = search (clip_end, rules)
