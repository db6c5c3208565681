-- The ends that the bytes of a table can hold.
use Rattle.ranges.specs.Cut.{bot, top, before, after}
use Rattle.ranges.specs.Range.{Range}
use Rattle.version_roundtrip.specs.Readable.{Writable}
use Rattle.list_ends.specs.Cut.{Place}

-- a lower end: none below, before V, after V
abbrev pub Lower : Place → Type 0
Lower bot = Unit {0}
Lower top = ⊥
Lower (before v) = Writable v
Lower (after v) = Writable v

-- an upper end: none above, before V, after V
abbrev pub Upper : Place → Type 0
Upper bot = ⊥
Upper top = Unit {0}
Upper (before v) = Writable v
Upper (after v) = Writable v

pub record Written (r : Range Place) : Type 0 where
  pub lower : Lower r.lo
  pub upper : Upper r.hi
