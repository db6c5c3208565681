-- `version_normal::label::store_lower`: a byte more is the text's next byte in lower case.
use Rattle.std.proofs.Common.{rules}
use Rattle.chars.specs.Case.{lowered}
use Rattle.decimal.proofs.Puts.{nothing}
use Rattle.version_normal.proofs.Texts.{lower_next}
use Rattle.version_normal.proofs.label.store_lower.Goals as goal

pub loop-byte-init : goal.loop-byte-init
unfolding lowered
loop-byte-init c = record { near = search rules; wrote = search nothing }

pub loop-byte-preserved : goal.loop-byte-preserved
loop-byte-preserved c = record { near = search rules; wrote = search lower_next }
